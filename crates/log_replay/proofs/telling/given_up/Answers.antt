use Rattle.std.proofs.Common.{◌≡◌, ◌∙◌, ap, sym, ◌++◌, ℕ}
use Rattle.field_bounds.specs.declared.kind.Kind.TheVariants.{Lower, Raise}
use Rattle.field_bounds.specs.declared.id.FieldNo.{FieldNo}
use Rattle.kept_records.specs.Summary.{one_cut}
use Rattle.log_replay.specs.Telling.{cut_with, cut_if}
use Rattle.log_replay.proofs.Told.{cuts_none, cuts_more}
use Rattle.log_replay.proofs.telling.given_up.Goals as goal

pub loop-number-init : goal.loop-number-init
loop-number-init c = c.new-told.ensures.items ∙ sym (cuts_none (cut_with c.args.anew c.args.rights.now))

pub loop-number-preserved : goal.loop-number-preserved
loop-number-preserved c =
    let F = cut_with c.args.anew c.args.rights.now in
    let m = c.loop-number.number in
    let field : FieldNo = record { 0 = m } in
    let low : c.push_cut.new.totals.items ≡ c.loop-number.told.items ++ one_cut F m Lower =
    c.in_ok-push_cut.ensures ∙ ap (λ (n : ℕ). c.loop-number.told.items ++ cut_if field Lower n) c.cut_with-lower.ensures.value in
    let high : c.push_cut-in-loop-number.new.totals.items ≡ c.push_cut.new.totals.items ++ one_cut F m Raise =
    c.in_ok-push_cut-2.ensures ∙ ap (λ (n : ℕ). c.push_cut.new.totals.items ++ cut_if field Raise n) c.cut_with-raise.ensures.value in
    cuts_more F m c.loop-number.told.items c.push_cut.new.totals.items c.push_cut-in-loop-number.new.totals.items c.loop-number.invariant
    low high
