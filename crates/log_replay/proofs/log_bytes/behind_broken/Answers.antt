use Rattle.std.proofs.Common.{◌+◌, length, ap, arith}
use Rattle.kept_records.proofs.Cursors.{fewer}
use Rattle.kept_records.proofs.Walks.{at_line, bad_at_line, bad_there}
use Rattle.log_replay.proofs.LogBytes.{passed_over}
use Rattle.log_replay.proofs.log_bytes.behind_broken.Goals as goal

pub loop-of-by_line-preserved-in-Some : goal.loop-of-by_line-preserved-in-Some
loop-of-by_line-preserved-in-Some c = record {
  few = omega (arith, c.loop-of-by_line.invariant.few, c.in-Some.ensures.shorter);
  front = passed_over c.args.lines.now.left c.args.broken c.loop-of-by_line.line c.loop-of-by_line.lines.left _ _
      c.loop-of-by_line.invariant.front c.in-Some.ensures.handed;
}

pub loop-of-by_line-preserved : goal.loop-of-by_line-preserved
loop-of-by_line-preserved c =
    let left = c.loop-of-by_line.lines.left in
    let new = c.next_line.new.self.left in
    let next = c.in-Record.record in
    let at = at_line _ c.in_default.ensures.handed c.in_ok-record.ensures.handed c.in-Record.is in
    let same = c.give_back.ensures.same in
    record {
      few = omega (arith, c.loop-of-by_line.invariant.few, fewer left new next at.parts, ap length same);
      front = rw same (passed_over c.args.lines.now.left c.args.broken c.loop-of-by_line.line left new next
          c.loop-of-by_line.invariant.front at);
    }

pub returns-in-NoRecord : goal.returns-in-NoRecord
returns-in-NoRecord c =
    let front = c.loop-of-by_line.invariant.front in
    let bad = bad_at_line _ c.in_default.ensures.handed c.in_ok-record.ensures.handed c.in-NoRecord.is in
    record {
      tells = (
        length front.0 + 1,
        (bad_there c.args.lines.now.left front.0 c.loop-of-by_line.lines.left 0 front.1 bad.0).0,
        omega (arith, front.2),
      );
    }
