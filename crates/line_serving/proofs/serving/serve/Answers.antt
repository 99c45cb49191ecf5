use Rattle.std.proofs.Common.{None, refl, inr, ◌∙◌}
use Rattle.std.proofs.lemmas.Result.{IfErr-weaker}
use Rattle.site_service.specs.Traces.{trace_of}
use Rattle.line_serving.proofs.Batches.{serves_none, stops_at_first, held_reads, held_not_read, writes_from}
use Rattle.line_serving.proofs.serving.serve.Goals as goal

pub returns-in-Err : goal.returns-in-Err
returns-in-Err g c = record {
  ok = tt;
  end = tt;
  err = stops_at_first None (g.R.Source.bytes c.args.reader.now) _ _
      (trace_of (g.T.LogFile.bytes c.args.trace.now) (g.T.LogFile.safe c.args.trace.now)) c.args.service.now c.release.new.self
      c.in-Err.ensures.served _ c.in-Err.ensures.err;
  least = c.in-Err.ensures.least;
  uncut = refl;
  read = λ h. absurd (held_not_read (g.W.Sink.bytes c.args.writer.now) (g.W.Sink.bytes c.release.new.writer) c.args.service.now
      c.release.new.self _ c.in-Err.ensures.err h);
  write = c.in-Err.ensures.refused;
  reads = held_reads (g.W.Sink.bytes c.args.writer.now) (g.W.Sink.bytes c.release.new.writer) c.args.service.now
      c.release.new.self _ (g.R.Source.failures c.args.reader.now) c.in-Err.ensures.err;
  writes = c.in-Err.ensures.writes;
}

pub returns-in-Ok : goal.returns-in-Ok
returns-in-Ok g c =
    let from = g.R.Source.bytes c.args.reader.now in
    let before = g.W.Sink.bytes c.args.writer.now in
    let trace = trace_of (g.T.LogFile.bytes c.args.trace.now) (g.T.LogFile.safe c.args.trace.now) in
    let part = serves_none None from before _ trace c.args.service.now c.release.new.self c.in-Ok.ensures.served c.in-Ok.ensures.ok in
    record {
      ok = c.serve_batches.ensures.ok from before trace c.args.service.now part;
      end = c.serve_batches.ensures.end;
      err = IfErr-weaker c.serve_batches.result _ _ (λ fault stops. inr stops)
          (c.serve_batches.ensures.err from before trace c.args.service.now part);
      least = c.serve_batches.ensures.least ∙ c.in-Ok.ensures.least;
      uncut = c.serve_batches.ensures.uncut;
      read = c.serve_batches.ensures.read;
      write = c.serve_batches.ensures.write;
      reads = c.serve_batches.ensures.reads;
      writes = writes_from c.serve_batches.result (g.W.Sink.refusals c.args.writer.now) (g.W.Sink.refusals c.release.new.writer) _
          c.in-Ok.ensures.writes c.serve_batches.ensures.writes;
    }
