use Rattle.kept_records.proofs.Walks.{at_line, bad_at_line, end_at_line}
use Rattle.site_service.proofs.BehindBases.{starts_if, none_if, bad_starts, end_starts}
use Rattle.site_service.proofs.behind.first_base.Goals as goal

pub returns-in-Record-clause-some : goal.returns-in-Record-clause-some
returns-in-Record-clause-some c =
    starts_if c.into_summary.result c.args.records.now c.in-Record.kept c.next_line.new.self.left
    (at_line c.next_line.new.self.left c.new-lines.ensures.all c.in_ok-line.ensures.handed c.in-Record.is) c.into_summary.ensures.some

pub returns-in-Record-clause-none : goal.returns-in-Record-clause-none
returns-in-Record-clause-none c =
    none_if c.into_summary.result c.args.records.now c.in-Record.kept c.next_line.new.self.left
    (at_line c.next_line.new.self.left c.new-lines.ensures.all c.in_ok-line.ensures.handed c.in-Record.is) c.into_summary.ensures.none

pub returns-in-NoRecord-clause-none : goal.returns-in-NoRecord-clause-none
returns-in-NoRecord-clause-none c = λ base starts.
    bad_starts c.args.records.now
    (bad_at_line c.next_line.new.self.left c.new-lines.ensures.all c.in_ok-line.ensures.handed c.in-NoRecord.is).0 base starts

pub returns-clause-none : goal.returns-clause-none
returns-clause-none c = λ base starts.
    end_starts c.args.records.now
    (end_at_line c.next_line.new.self.left c.new-lines.ensures.all c.in_ok-line.ensures.handed c.in-End.is).0 base starts
