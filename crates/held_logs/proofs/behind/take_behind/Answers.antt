use Rattle.std.proofs.Common.{◌-◌, length, refl, ap, arith, inr}
use Rattle.kept_records.proofs.Cursors.{fewer}
use Rattle.kept_records.proofs.Walks.{at_line, bad_at_line, end_at_line}
use Rattle.held_logs.proofs.Taken.{places, taken_more, broken_rule, bad_line, comes}
use Rattle.held_logs.proofs.behind.take_behind.Goals as goal

pub take_common-requires-clause-places : goal.take_common-requires-clause-places
take_common-requires-clause-places c = places c.loop-of-by_line.invariant.taken

pub returns-then-not-take_common : goal.returns-then-not-take_common
returns-then-not-take_common c =
    let takes = rw (c.escrows.ensures.all, c.if-not-take_common.true) at c.take_common.ensures.takes_in in
    record { tells = inr (broken_rule c.loop-of-by_line.invariant.taken c.in-Some.ensures.handed takes) }

pub loop-of-by_line-preserved-in-Some : goal.loop-of-by_line-preserved-in-Some
loop-of-by_line-preserved-in-Some c =
    let takes = rw (c.escrows.ensures.all, c.if-not-take_common.false) at c.take_common.ensures.takes_in in
    record {
      few = omega (arith, c.loop-of-by_line.invariant.few, c.in-Some.ensures.shorter);
      taken = taken_more c.loop-of-by_line.invariant.taken c.in-Some.ensures.handed takes refl;
    }

pub take_next-requires-clause-places : goal.take_next-requires-clause-places
take_next-requires-clause-places c = places c.loop-of-by_line.invariant.taken

pub returns-then-not-may : goal.returns-then-not-may
returns-then-not-may c =
    let at = at_line _ c.in_default.ensures.handed c.in_ok-record.ensures.handed c.in-Record.is in
    record { tells = inr (broken_rule c.loop-of-by_line.invariant.taken at (rw c.if-not-may.true at c.in_ok-may-in-Record.ensures.takes_in)) }

pub loop-of-by_line-preserved : goal.loop-of-by_line-preserved
loop-of-by_line-preserved c =
    let left = c.loop-of-by_line.lines.left in
    let new = c.next_line.new.self.left in
    let at = at_line _ c.in_default.ensures.handed c.in_ok-record.ensures.handed c.in-Record.is in
    let same = c.give_back.ensures.same in
    record {
      few = omega (arith, c.loop-of-by_line.invariant.few, fewer left new c.in-Record.record at.parts, ap length same);
      taken = taken_more c.loop-of-by_line.invariant.taken at (rw c.if-not-may.false at c.in_ok-may-in-Record.ensures.takes_in) same;
    }

pub returns-in-NoRecord : goal.returns-in-NoRecord
returns-in-NoRecord c =
    let bad = bad_at_line _ c.in_default.ensures.handed c.in_ok-record.ensures.handed c.in-NoRecord.is in
    record { tells = inr (bad_line c.loop-of-by_line.invariant.taken bad.0) }

pub returns : goal.returns
returns c =
    let left = c.loop-of-by_line.lines.left in
    let none = end_at_line _ c.in_default.ensures.handed c.in_ok-record.ensures.handed c.in-End.is in
    record {
      tells = comes c.loop-of-by_line.invariant.taken (length c.args.bytes.now - c.left.result)
          (omega (arith, c.left.ensures.value, ap length none.1)) none.0;
    }
