-- The window stays on its text.
use Rattle.std.proofs.Common.{◌<◌, ℕ, List, length}
use Rattle.trace_windows.specs.Windows.{IsOn}
use Rattle.trace_windows.proofs.window.TraceWindow.fill.Given as goal

abbrev pub invariant-loop : goal.invariant-loop
invariant-loop g l = record {
  on : (text : List ℕ) (count n : ℕ) → IsOn g.F.ReadAt.bytes l.schema text count n l.initial.self
      → IsOn g.F.ReadAt.bytes l.schema text count n l.self;
  some : 0 < length l.piece;
}
