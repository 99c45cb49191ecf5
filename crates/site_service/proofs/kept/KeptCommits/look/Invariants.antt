-- The records in front of the cursor were looked at.
use Rattle.std.proofs.Common.{◌≡◌, length, drop}
use Rattle.kept_records.specs.Keeping.{IsKept}
use Rattle.site_service.specs.Index.{IsIndexOf}
use Rattle.site_service.proofs.kept.KeptCommits.look.Given as goal

abbrev pub invariant-loop-of-by_line : goal.invariant-loop-of-by_line
invariant-loop-of-by_line l = record {
  index : IsIndexOf l.self l.log;
  left : l.records.left ≡ drop l.self.seen l.log;
  kept : IsKept l.records.left;
}

abbrev pub decreases-loop-of-by_line : goal.decreases-loop-of-by_line
decreases-loop-of-by_line l = length l.records.left
