use Rattle.std.proofs.Common.{◌≡◌, ◌≤◌, map}
use Rattle.site_trace.specs.Keeping.{left_in}
use Rattle.site_trace.proofs.cutting.count_kept.Given as goal

abbrev pub invariant-loop-place : goal.invariant-loop-place
invariant-loop-place g l = record {
  counted : l.left ≡ left_in (map g.T.TellsEntry.told l.entries) l.place;
  few : l.left ≤ l.kept;
}
