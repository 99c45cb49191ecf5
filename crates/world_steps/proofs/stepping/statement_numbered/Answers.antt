use Rattle.std.proofs.Common.{◌≡◌, ◌<◌, length, inl, inr, sym, arith, ◌⊎◌}
use Rattle.world_steps.proofs.Numbered.{numbered_is, none_numbered}
use Rattle.world_steps.proofs.stepping.statement_numbered.Goals as goal

pub returns-then-k-eq0 : goal.returns-then-k-eq0
returns-then-k-eq0 c =
    let out : (c.args.k ≡ 0) ⊎ (length c.args.told.now < c.args.k) = elim c.then-k-eq0.either [ inl h ↦ inl h | inr h ↦ inr h.1 ] in
    record { value = sym (none_numbered c.args.k c.args.told.now out) }

pub returns : goal.returns
returns c = record { value = sym (numbered_is c.args.k c.args.told.now _ (omega (arith, c.if-k-eq0.false)) c.if-k-told.false) }
