-- Each turn writes some bytes, and what is written is in the new file.
use Rattle.std.proofs.Common.{◌≡◌, ◌-◌, ◌≤◌, length, take}
use Rattle.std.specs.Io.KnownBytes.{append_known}
use Rattle.file_swap.proofs.swapping.write_all.Given as goal

abbrev pub invariant-loop-written : goal.invariant-loop-written
invariant-loop-written g l = record {
  within : l.written ≤ length l.piece;
  beside : g.F.Replaceable.beside l.file ≡ append_known (g.F.Replaceable.beside l.initial.file) (take l.written l.piece);
  bytes : g.F.LogFile.bytes l.file ≡ g.F.LogFile.bytes l.initial.file;
  safe : g.F.LogFile.safe l.file ≡ g.F.LogFile.safe l.initial.file;
  least : g.F.LogFile.least l.file ≡ g.F.LogFile.least l.initial.file;
}

abbrev pub decreases-loop-written : goal.decreases-loop-written
decreases-loop-written g l = length l.piece - l.written
