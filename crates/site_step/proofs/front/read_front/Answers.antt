use Rattle.std.proofs.Common.{refl, sym, subst, ◌∙◌}
use Rattle.kept_records.specs.declared.record.Record.{Record}
use Rattle.kept_records.specs.Lines.{IsRecordAt}
use Rattle.kept_records.proofs.Walks.{at_line, bad_at_line, end_at_line}
use Rattle.site_step.proofs.FrontEnds.{tells_none, tells_more, no_bad, are_all}
use Rattle.site_step.proofs.front.read_front.Goals as goal

pub loop-of-by_line-init : goal.loop-of-by_line-init
loop-of-by_line-init c = tells_none c.new.ensures refl refl c.new-lines.ensures.all

pub loop-of-by_line-preserved-in-Some : goal.loop-of-by_line-preserved-in-Some
loop-of-by_line-preserved-in-Some c =
    let at = subst (λ (r : Record). IsRecordAt c.loop-of-by_line.lines.left r c.next_common.new.self.left)
    (sym c.whole-next.ensures.whole) c.in-Some.ensures.handed in
    tells_more c.loop-of-by_line.invariant at c.note.ensures.gone c.note.ensures.records c.note.ensures.latest
    (c.give_back.ensures.same ∙ c.whole-next.ensures.same)

pub loop-of-by_line-preserved : goal.loop-of-by_line-preserved
loop-of-by_line-preserved c =
    let at = at_line _ c.in_default.ensures.handed c.in_ok-next.ensures.handed c.in-Record.is in
    tells_more c.loop-of-by_line.invariant at c.note-in-Record.ensures.gone c.note-in-Record.ensures.records
    c.note-in-Record.ensures.latest c.give_back-in-Record.ensures.same

pub unreachable-requires : goal.unreachable-requires
unreachable-requires c =
    let bad = bad_at_line _ c.in_default.ensures.handed c.in_ok-next.ensures.handed c.in-NoRecord.is in
    no_bad c.loop-of-by_line.invariant bad.0 c.requires.log

pub returns-clause-gone : goal.returns-clause-gone
returns-clause-gone c =
    let end = end_at_line _ c.in_default.ensures.handed c.in_ok-next.ensures.handed c.in-End.is in
    are_all c.loop-of-by_line.invariant end.0
