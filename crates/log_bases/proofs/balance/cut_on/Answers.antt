use Rattle.std.proofs.Common.{◌≡◌, ◌∙◌, ◌≤◌, ℕ, List, ap, subst, sym}
use Rattle.std.proofs.lemmas.List.{take_all}
use Rattle.field_bounds.specs.Owed.{max_change}
use Rattle.kept_records.specs.declared.total.Cut.{Cut}
use Rattle.kept_records.specs.Summary.{cut_told}
use Rattle.log_replay.proofs.Told.{cut_told_none, cut_told_one}
use Rattle.log_bases.proofs.Formed.{cuts_few}
use Rattle.log_bases.proofs.balance.cut_on.Goals as goal

pub loop-told-init : goal.loop-told-init
loop-told-init c = cut_told_none c.args.field.0 c.args.kind

pub loop-told-preserved : goal.loop-told-preserved
loop-told-preserved c =
    let ts = c.args.cuts.now in
    let i = c.loop-told.told-index in
    cut_told_one ts i c.args.field.0 c.args.kind c.loop-told.total _ c.loop-told-test.true c.loop-told.invariant
    c.cut_or-total.ensures.value

pub returns : goal.returns
returns c =
    let ts = c.args.cuts.now in
    let f = c.args.field.0 in
    let k = c.args.kind in
    let told : c.loop-told.total ≡ cut_told ts f k =
    c.loop-told.invariant ∙ ap (λ (l : List Cut). cut_told l f k) (take_all c.loop-told.told-index ts c.loop-told-test.false) in
    record { value = told; few = subst (λ (n : ℕ). n ≤ max_change) (sym told) (cuts_few ts c.requires.in_range f k) }
