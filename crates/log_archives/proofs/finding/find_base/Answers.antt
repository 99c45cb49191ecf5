use Rattle.std.proofs.Common.{take}
use Rattle.log_archives.proofs.Finds.{base_line, finds_base}
use Rattle.log_archives.proofs.finding.find_base.Goals as goal

pub returns-in-Some : goal.returns-in-Some
returns-in-Some c =
    let has = rw c.in-Some.is at c.in_ok-base.ensures.some in
    let next = c.args.next.now in
    record {
      found = finds_base c.args.gone.now c.args.held.now c.args.told.now next has.1 has.0 (take c.in-Some.base next) c.base_at.result has.2
          (base_line next has.1 has.0 c.in-Some.base has.2 has.3) c.base_at.ensures.found;
    }
