-- Each turn looks at some bytes, which are those of the name, and the file stays as it is.
use Rattle.std.proofs.Common.{◌≡◌, ◌-◌, ◌≤◌, ◌<◌, length}
use Rattle.named_log.specs.Names.{HasMet}
use Rattle.named_log.proofs.naming.starts_with.Given as goal

abbrev pub invariant-loop-seen : goal.invariant-loop-seen
invariant-loop-seen g l = record {
  within : l.seen ≤ length l.name;
  some : 0 < length l.piece;
  same : HasMet (g.F.LogFile.bytes l.initial.file) l.seen l.name;
  bytes : g.F.LogFile.bytes l.file ≡ g.F.LogFile.bytes l.initial.file;
  safe : g.F.LogFile.safe l.file ≡ g.F.LogFile.safe l.initial.file;
  least : g.F.LogFile.least l.file ≡ g.F.LogFile.least l.initial.file;
}

abbrev pub decreases-loop-seen : goal.decreases-loop-seen
decreases-loop-seen g l = length l.name - l.seen
