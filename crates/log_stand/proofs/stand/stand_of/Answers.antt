use Rattle.std.proofs.Common.{◌-◌, [], ℕ, List, length, sym, ap, subst, ◌∙◌, arith}
use Rattle.kept_records.specs.declared.record.Record.{Record}
use Rattle.kept_records.specs.Stands.{later}
use Rattle.kept_records.specs.Lines.{HandsLine, Begins}
use Rattle.kept_records.proofs.Cursors.{fewer}
use Rattle.kept_records.proofs.Pushes.{greatest_none}
use Rattle.kept_records.proofs.Walks.{at_line, begins_none}
use Rattle.log_stand.proofs.Fronts.{front_more, stopped}
use Rattle.log_stand.proofs.stand.stand_of.Goals as goal

pub loop-of-by_line-init : goal.loop-of-by_line-init
loop-of-by_line-init c =
    let all = c.new-lines.ensures.all in
    record {
      within = omega (arith, ap length all);
      front = ([], subst (λ (l : List ℕ). Begins c.args.bytes.now [] l) (sym all) (begins_none c.args.bytes.now), sym greatest_none);
    }

pub loop-of-by_line-preserved-in-Some : goal.loop-of-by_line-preserved-in-Some
loop-of-by_line-preserved-in-Some c =
    let same = c.give_back.ensures.same ∙ c.whole-next.ensures.same in
    record {
      within = omega (arith, ap length same, c.in-Some.ensures.shorter, c.loop-of-by_line.invariant.within);
      front = front_more c.loop-of-by_line.invariant.front c.in-Some.ensures.handed same
          (c.epoch_behind-epoch.ensures.value ∙ ap (λ (r : Record). later c.loop-of-by_line.epoch r) c.whole-next.ensures.whole);
    }

pub loop-of-by_line-smaller : goal.loop-of-by_line-smaller
loop-of-by_line-smaller c =
    let at = at_line _ c.in_default.ensures.handed c.in_ok-next.ensures.handed c.in-Record.is in
    omega (arith, fewer _ _ _ at.parts, ap length c.give_back-in-Record.ensures.same)

pub loop-of-by_line-preserved : goal.loop-of-by_line-preserved
loop-of-by_line-preserved c =
    let at = at_line _ c.in_default.ensures.handed c.in_ok-next.ensures.handed c.in-Record.is in
    let same = c.give_back-in-Record.ensures.same in
    record {
      within = omega (arith, ap length same, fewer _ _ _ at.parts, c.loop-of-by_line.invariant.within);
      front = front_more c.loop-of-by_line.invariant.front at same c.epoch_behind-epoch-in-Record.ensures.value;
    }

pub overflow_sub-result : goal.overflow_sub-result
overflow_sub-result c = omega (
  arith,
  c.left.ensures.value,
  c.next_line.ensures.within,
  ap length c.in_default.ensures.handed,
  c.loop-of-by_line.invariant.within,
)

pub returns : goal.returns
returns c =
    let bytes = c.args.bytes.now in
    let front = c.loop-of-by_line.invariant.front in
    let left = c.loop-of-by_line.lines.left in
    let new = c.next_line.new.self.left in
    let handed = subst (λ (l : List ℕ). HandsLine l c.in_ok-next.field-0 new) c.in_default.ensures.handed c.in_ok-next.ensures.handed in
    record {
      stand = stopped bytes front.0 left front.1 (record { epoch = c.from.result; length = length bytes - c.left.result })
          (c.from.ensures ∙ front.2) new (ap (λ (n : ℕ). length bytes - n) c.left.ensures.value) c.in_ok-next.field-0 handed
          c.in_default-2.not-Record;
    }
