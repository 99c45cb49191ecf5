use Rattle.std.proofs.Common.{◌≡◌, ◌<◌, length}
use Rattle.std.specs.Prelude.{vec_len}
use Rattle.escrow_site.proofs.judging.open_traces.Given as goal

abbrev pub invariant-loop-number : goal.invariant-loop-number
invariant-loop-number l = record {
  count : length l.traces.items ≡ l.number;
  some : 0 < vec_len l.piece;
}
