-- Each turn looks at some bytes, which are those of the copy, and the file stays as it is.
use Rattle.std.proofs.Common.{◌≡◌, ◌-◌, ◌≤◌, length}
use Rattle.file_medium.specs.Copies.{HasSeen}
use Rattle.file_medium.proofs.copying.holds.Given as goal

abbrev pub invariant-loop-seen : goal.invariant-loop-seen
invariant-loop-seen g l = record {
  within : l.seen ≤ length l.bytes;
  same : HasSeen (g.F.LogFile.bytes l.initial.file) l.from l.seen l.bytes;
  bytes : g.F.LogFile.bytes l.file ≡ g.F.LogFile.bytes l.initial.file;
  safe : g.F.LogFile.safe l.file ≡ g.F.LogFile.safe l.initial.file;
  least : g.F.LogFile.least l.file ≡ g.F.LogFile.least l.initial.file;
}

abbrev pub decreases-loop-seen : goal.decreases-loop-seen
decreases-loop-seen g l = length l.bytes - l.seen
