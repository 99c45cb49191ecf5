use Rattle.std.proofs.Common.{◌≡◌, ℕ, List, Option}
use Rattle.script_input.specs.Reader.{ahead_of}
use Rattle.escrow_run.specs.Run.{Runs}
use Rattle.escrow_run.proofs.script.Script.answer_all.Given as goal

abbrev pub invariant-lines : goal.invariant-lines
invariant-lines g l = record {
  runs : (from before : Option (List ℕ))
      → Runs from (g.R.Source.bytes l.initial.reader) before (g.W.Sink.bytes l.initial.writer) (g.R.Source.last l.initial.reader) l.initial.self
      → Runs from (g.R.Source.bytes l.reader) before (g.W.Sink.bytes l.writer) (g.R.Source.last l.reader) l.self;
  reads : g.R.Source.failures l.reader ≡ g.R.Source.failures l.initial.reader;
  writes : g.W.Sink.refusals l.writer ≡ g.W.Sink.refusals l.initial.writer;
}

abbrev pub decreases-lines : goal.decreases-lines
decreases-lines g l = ahead_of l.self.lines
