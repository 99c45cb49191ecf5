use Rattle.std.proofs.Common.{◌≡◌, ℕ, ◌≤◌, ◌⊎◌, List, Option}
use Rattle.script_input.specs.Reader.{ahead_of, Reads, ReadsNoFurther}
use Rattle.script_input.proofs.reader.LineReader.next.Given as goal

abbrev pub invariant-pieces : goal.invariant-pieces
invariant-pieces g l = record {
  none : l.initial.self.passed ≡ 0 → l.self.passed ≡ 0;
  more : l.initial.self.passed ≤ l.self.passed;
  ahead : ahead_of l.self ≤ ahead_of l.initial.self;
  reads : (from : Option (List ℕ)) (given : List (List ℕ))
      → Reads from (g.R.Source.bytes l.initial.reader) (g.R.Source.last l.initial.reader) l.initial.self given
      → Reads from (g.R.Source.bytes l.reader) (g.R.Source.last l.reader) l.self given;
  no_further : (from : Option (List ℕ)) (given : List (List ℕ))
      → Reads from (g.R.Source.bytes l.initial.reader) (g.R.Source.last l.initial.reader) l.initial.self given
      → (g.R.Source.bytes l.reader ≡ g.R.Source.bytes l.initial.reader) ⊎ ReadsNoFurther from (g.R.Source.bytes l.reader) given;
  failures : g.R.Source.failures l.reader ≡ g.R.Source.failures l.initial.reader;
}

abbrev pub decreases-pieces : goal.decreases-pieces
decreases-pieces g l = ahead_of l.self
