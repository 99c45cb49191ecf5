-- What was read is the front of the file, which stays as it is.
use Rattle.std.proofs.Common.{◌≡◌, ◌<◌}
use Rattle.std.specs.Prelude.{vec_len}
use Rattle.file_medium.specs.Copies.{IsFrontOf}
use Rattle.file_medium.proofs.copying.read_whole.Given as goal

abbrev pub invariant-loop : goal.invariant-loop
invariant-loop g l = record {
  front : IsFrontOf (g.F.LogFile.bytes l.file) l.held.items;
  bytes : g.F.LogFile.bytes l.file ≡ g.F.LogFile.bytes l.initial.file;
  safe : g.F.LogFile.safe l.file ≡ g.F.LogFile.safe l.initial.file;
  least : g.F.LogFile.least l.file ≡ g.F.LogFile.least l.initial.file;
  some : 0 < vec_len l.piece;
}
