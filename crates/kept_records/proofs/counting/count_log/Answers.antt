use Rattle.std.proofs.Common.{◌≡◌, ◌-◌, ◌+◌, ℕ, List, length, Option, Some, refl, sym, ap, subst, ◌∙◌, arith, rules}
use Rattle.std.specs.List.{flat_map}
use Rattle.kept_records.specs.Text.{text}
use Rattle.kept_records.specs.Logs.{AreGoodRecords}
use Rattle.kept_records.proofs.Cursors.{fewer}
use Rattle.kept_records.proofs.Walks.{at_line, bad_at_line, end_at_line, begins_size, ends_there, bad_there}
use Rattle.kept_records.proofs.Counts.{Counted, counted_none, counted_more, lent_plain}
use Rattle.kept_records.proofs.counting.count_log.Goals as goal
use Rattle.kept_records.proofs.counting.count_log.Goals.{in-NoRecord, in-End}

pub lines-init : goal.lines-init
lines-init c =
    let all = c.new-lines.ensures.all in
    record {
      few = omega (arith, ap length all);
      counted = subst (λ (l : List ℕ). Counted c.args.bytes.now 0 0 l) (sym all) (counted_none c.args.bytes.now);
    }

pub lines-preserved-in-Some : goal.lines-preserved-in-Some
lines-preserved-in-Some c =
    let before = c.lines in
    record {
      few = omega (arith, before.invariant.few, c.in-Some.ensures.shorter);
      counted = counted_more before.invariant.counted c.in-Some.ensures.handed refl
          (ap (λ (n : ℕ). before.plain + n) (sym (lent_plain c.in-Some.field-0 c.next_common.new.self.escrows))) (omega arith);
    }

pub lines-preserved : goal.lines-preserved
lines-preserved c =
    let before = c.lines in
    let same = c.give_back.ensures.same in
    let at = at_line _ c.in_default.ensures.handed c.in_ok-next.ensures.handed c.in-Record.is in
    let few = c.plain_count-one.ensures.few in
    record {
      few = omega (arith, before.invariant.few, fewer _ _ _ at.parts, ap length same, few);
      counted = counted_more before.invariant.counted at same
          (ap (λ (n : ℕ). before.plain + n) c.plain_count-one.ensures.value) (omega (arith, few));
    }

pub returns : goal.returns
returns c =
    let bytes = c.args.bytes.now in
    let left = c.lines.lines.left in
    let counted = c.lines.invariant.counted in
    let size : ℕ = length bytes - c.left.result in
    elim c.match-branch-2.branch [
      | in-NoRecord w ↦
          let bad = bad_at_line _ c.in_default.ensures.handed c.in_ok-next.ensures.handed w.in-NoRecord.is in
          let line : Some (length counted.records + 1) ≡ c.match-branch-2.bad_line =
          ap (λ (n : ℕ). Some (n + 1)) (sym counted.all) ∙ sym w.bad_line-is in
          record {
            count = record {
              records = counted.records;
              good = subst (λ (found : Option ℕ). AreGoodRecords bytes counted.records size found) line
                  (bad_there bytes counted.records left size counted.front bad.0);
              others = counted.plain_ones;
              size = omega (arith, c.left.ensures.value, ap length bad.1, begins_size bytes counted.records left counted.front);
            };
          }
      | in-End w ↦
          let none = end_at_line _ c.in_default.ensures.handed c.in_ok-next.ensures.handed w.in-End.is in
          let whole : size ≡ length (flat_map text counted.records) =
          omega (arith, c.left.ensures.value, ap length none.1, begins_size bytes counted.records left counted.front) in
          record {
            count = record {
              records = counted.records;
              good = subst (λ (found : Option ℕ). AreGoodRecords bytes counted.records size found) (sym w.bad_line-is)
                  (ends_there bytes counted.records left size counted.front none.0 whole);
              others = counted.plain_ones;
              size = whole;
            };
          }
    ]

pub overflow_add-bad_line : goal.overflow_add-bad_line
overflow_add-bad_line c = search rules

pub overflow_add-bad_line-in-NoRecord : goal.overflow_add-bad_line-in-NoRecord
overflow_add-bad_line-in-NoRecord c = search rules
