use Rattle.std.proofs.Common.{◌≡◌, ℕ, List}
use Rattle.script_input.specs.Reader.{ahead_of, Reads}
use Rattle.escrow_work.specs.Reading.{Holds, WantsAt}
use Rattle.escrow_work.proofs.reading.read_scripts.Given as goal

abbrev pub invariant-lines : goal.invariant-lines
invariant-lines g l = record {
  given : List (List ℕ);
  reads : Reads (g.R.Source.bytes l.fn.reader) (g.R.Source.bytes l.reader) (g.R.Source.last l.reader) l.lines given;
  holds : Holds l.scripts given;
  none : l.lines.passed ≡ 0;
  wants : WantsAt (g.R.Source.bytes l.fn.reader) (g.R.Source.bytes l.reader);
  failures : g.R.Source.failures l.reader ≡ g.R.Source.failures l.fn.reader;
}

abbrev pub decreases-lines : goal.decreases-lines
decreases-lines g l = ahead_of l.lines
