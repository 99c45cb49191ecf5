use Rattle.std.proofs.Common.{◌+◌, ◌&&◌, ℕ, List, length, sym, ap, subst, ◌∙◌, arith, true}
use Rattle.kept_records.specs.declared.record.Record.{Record}
use Rattle.kept_records.proofs.Counts.{lent_plain}
use Rattle.kept_records.proofs.Cursors.{fewer}
use Rattle.kept_records.proofs.Walks.{at_line}
use Rattle.log_archives.specs.Heads.{may_go}
use Rattle.log_archives.proofs.Surveys.{Looked, looked_none, looked_more}
use Rattle.log_archives.proofs.survey.survey.Goals as goal

pub loop-of-by_line-init : goal.loop-of-by_line-init
loop-of-by_line-init c =
    let all = c.new-lines.ensures.all in
    record {
      few = omega (arith, ap length all);
      looked = subst (λ (l : List ℕ). Looked c.args.horizon.now c.args.bytes.now 0 true l) (sym all)
          (looked_none c.args.horizon.now c.args.bytes.now);
    }

pub loop-of-by_line-preserved-in-Some : goal.loop-of-by_line-preserved-in-Some
loop-of-by_line-preserved-in-Some c =
    let before = c.loop-of-by_line in
    let same = c.give_back.ensures.same ∙ c.whole-next.ensures.same in
    let whole = c.whole-next.ensures.whole in
    record {
      few = omega (arith, ap length same, c.in-Some.ensures.shorter, before.invariant.few);
      looked = looked_more before.invariant.looked c.in-Some.ensures.handed same
          (ap (λ (n : ℕ). before.plain + n) (sym (lent_plain c.in-Some.told c.next_common.new.self.escrows)))
          (c.and_may_go-all_may_go.ensures.value ∙ ap (λ (r : Record). before.all_may_go && may_go c.args.horizon.now r) whole);
    }

pub loop-of-by_line-preserved : goal.loop-of-by_line-preserved
loop-of-by_line-preserved c =
    let before = c.loop-of-by_line in
    let same = c.give_back-in-Record.ensures.same in
    let at = at_line _ c.in_default.ensures.handed c.in_ok-next.ensures.handed c.in-Record.is in
    record {
      few = omega (arith, before.invariant.few, fewer _ _ _ at.parts, ap length same, c.plain_count-plain.ensures.few);
      looked = looked_more before.invariant.looked at same
          (ap (λ (n : ℕ). before.plain + n) c.plain_count-plain.ensures.value) c.and_may_go-all_may_go-in-Record.ensures.value;
    }
