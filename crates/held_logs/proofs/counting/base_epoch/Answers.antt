use Rattle.std.proofs.Common.{ℕ, List, sym, ap, subst, ◌∙◌, inl, inr}
use Rattle.held_logs.specs.Behind.{IsFirst}
use Rattle.held_logs.proofs.Firsts.{first_epoch, epoch_of_first}
use Rattle.held_logs.proofs.counting.base_epoch.Goals as goal

pub returns-in-Base : goal.returns-in-Base
returns-in-Base c =
    let left = c.first_line.new.lines.left in
    let first = c.in_ok-base.field-0 in
    let is = subst (λ (l : List ℕ). IsFirst l first left) c.new-lines.ensures.all c.in_ok-base.ensures.first in
    record {
      value = λ count counted.
          c.epoch.ensures.value ∙ sym (ap first_epoch c.in-Base.is) ∙ epoch_of_first c.args.bytes.now left first is count counted;
    }

pub returns : goal.returns
returns c =
    let left = c.first_line.new.lines.left in
    let first = c.in_ok-base.field-0 in
    let is = subst (λ (l : List ℕ). IsFirst l first left) c.new-lines.ensures.all c.in_ok-base.ensures.first in
    record {
      value = λ count counted.
          elim c.in-Other.is [
            | inl other ↦ sym (ap first_epoch other) ∙ epoch_of_first c.args.bytes.now left first is count counted
            | inr missing ↦ sym (ap first_epoch missing) ∙ epoch_of_first c.args.bytes.now left first is count counted
          ];
    }
