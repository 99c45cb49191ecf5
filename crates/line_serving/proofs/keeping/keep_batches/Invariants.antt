-- Each turn serves a batch, and looks at the log.
use Rattle.std.proofs.Common.{◌≡◌, ◌<◌, Some, [], ℕ, List, Option, vec_len}
use Rattle.site_service.specs.Service.{ServiceValue}
use Rattle.site_service.specs.Traces.{TraceValue, trace_of}
use Rattle.line_serving.specs.Serving.{ServesPart}
use Rattle.line_serving.proofs.keeping.keep_batches.Given as goal

abbrev pub invariant-batches : goal.invariant-batches
invariant-batches g l = record {
  serves : (from before : Option (List ℕ)) (was : TraceValue) (start : ServiceValue)
      → ServesPart (Some l.initial.keep) from (g.R.Source.bytes l.initial.reader) before (g.W.Sink.bytes l.initial.writer)
      was (trace_of (g.T.LogFile.bytes l.initial.trace) (g.T.LogFile.safe l.initial.trace)) start l.initial.service [] 0
      → ServesPart (Some l.initial.keep) from (g.R.Source.bytes l.reader) before (g.W.Sink.bytes l.writer)
      was (trace_of (g.T.LogFile.bytes l.trace) (g.T.LogFile.safe l.trace)) start l.service l.line.items l._reads;
  some : 0 < vec_len l.buffer;
  keep : l.due.keep ≡ l.initial.keep;
  uncut : g.T.LogFile.least l.trace ≡ g.T.LogFile.least l.initial.trace;
  reads : g.R.Source.failures l.reader ≡ g.R.Source.failures l.initial.reader;
  writes : g.W.Sink.refusals l.writer ≡ g.W.Sink.refusals l.initial.writer;
}
