use Rattle.std.proofs.Common.{◌≡◌, ◌<◌, [], length, take, refl, sym, ap, subst, ◌∙◌, arith}
use Rattle.std.proofs.lemmas.Result.{err_from_is_err_and}
use Rattle.std.specs.Io.KnownBytes.{Consumes}
use Rattle.script_input.specs.Lines.{last_part}
use Rattle.site_service.specs.declared.fault.ServeFault.TheVariants as faults
use Rattle.site_service.specs.Counting.{reads_failed}
use Rattle.site_service.specs.Traces.{trace_of}
use Rattle.line_serving.proofs.Batches.{stops_kept, serves_all, stops_behind, serves_batch, stops_release, held_reads, held_not_read}
use Rattle.site_service.proofs.Tracing.{kept_of, kept_still}
use Rattle.line_serving.proofs.serving.take_batch.Goals as goal

pub returns-in_err-count : goal.returns-in_err-count
returns-in_err-count g c =
    let p = err_from_is_err_and c.from_residual.result c.from_residual.ensures.1 in
    rw (p.1, p.2, c.in_err-count.ensures.fault) (record {
      ok = λ keep from before was start reads part. tt;
      err = λ keep from before was start reads part.
          stops_kept keep from _ _ before _ was _ start c.args.service.now c.args.line.now.items reads part c.in_err-count.ensures.bytes;
      settled = tt;
      least = refl;
      uncut = refl;
      end = tt;
      read = λ h. c.in_err-count.ensures.failed;
      write = λ h. cc;
      reads = subst (λ f. g.R.Source.failures c.read_piece.new.reader ≡ reads_failed f (g.R.Source.failures c.args.reader.now))
          c.in_err-count.ensures.fault c.in_err-count.ensures.reads;
      writes = refl;
    })

pub returns-then-count-eq0-clause-ok : goal.returns-then-count-eq0-clause-ok
returns-then-count-eq0-clause-ok g c = λ keep from before was start reads part.
    let mid = g.R.Source.bytes c.args.reader.now in
    let to = g.R.Source.bytes c.read_piece.new.reader in
    let none : Consumes mid to [] = subst (λ n. Consumes mid to (take n c.read_piece.new.buffer)) c.if-count-eq0.true c.in_ok-count.ensures.bytes.0 in
    let room : 0 < length c.read_piece.new.buffer = omega (arith, c.requires.room, c.read_piece.auto.buffer) in (
      serves_all keep from mid to before _ was _ start c.args.service.now c.args.line.now.items reads part none,
      c.in_ok-count.ensures.bytes.1 c.if-count-eq0.true room,
    )

pub returns-then-count-eq0-clause-end : goal.returns-then-count-eq0-clause-end
returns-then-count-eq0-clause-end g c = λ h.
    let room : 0 < length c.read_piece.new.buffer = omega (arith, c.requires.room, c.read_piece.auto.buffer) in
    c.in_ok-count.ensures.nothing c.if-count-eq0.true room

pub returns-in_err-answer_piece : goal.returns-in_err-answer_piece
returns-in_err-answer_piece g c =
    let mid = g.R.Source.bytes c.args.reader.now in
    let to = g.R.Source.bytes c.read_piece.new.reader in
    let trace = trace_of (g.T.LogFile.bytes c.args.trace.now) (g.T.LogFile.safe c.args.trace.now) in
    let more : Consumes mid to c.front.result.now = subst (Consumes mid to) (sym c.front.ensures.bytes) c.in_ok-count.ensures.bytes.0 in
    let p = err_from_is_err_and c.from_residual-in_err-answer_piece.result c.from_residual-in_err-answer_piece.ensures.1 in
    rw (p.1, p.2) (record {
      ok = λ keep from before was start reads part. tt;
      err = λ keep from before was start reads part.
          stops_behind keep from mid to before _ was trace trace start c.args.service.now c.answer_piece.new.service c.args.line.now.items
          c.front.result.now reads part more c.in_err-answer_piece.ensures.log.safe (kept_of was trace part.serves.text part.serves.told)
          faults.NoMemory part.serves.written tt;
      settled = tt;
      least = c.in_err-answer_piece.ensures.log.least;
      uncut = refl;
      end = tt;
      read = λ h. cc;
      write = λ h. cc;
      reads = c.in_ok-count.ensures.reads;
      writes = refl;
    })

pub returns-in_err-write_trace : goal.returns-in_err-write_trace
returns-in_err-write_trace g c =
    let mid = g.R.Source.bytes c.args.reader.now in
    let to = g.R.Source.bytes c.read_piece.new.reader in
    let trace = trace_of (g.T.LogFile.bytes c.args.trace.now) (g.T.LogFile.safe c.args.trace.now) in
    let traced = trace_of (g.T.LogFile.bytes c.write_trace.new.trace) (g.T.LogFile.safe c.write_trace.new.trace) in
    let more : Consumes mid to c.front.result.now = subst (Consumes mid to) (sym c.front.ensures.bytes) c.in_ok-count.ensures.bytes.0 in
    let p = err_from_is_err_and c.from_residual-in_err-write_trace.result c.from_residual-in_err-write_trace.ensures.1 in
    rw (p.1, p.2) (record {
      ok = λ keep from before was start reads part. tt;
      err = λ keep from before was start reads part.
          stops_behind keep from mid to before _ was trace traced start c.args.service.now c.answer_piece.new.service c.args.line.now.items
          c.front.result.now reads part more c.in_ok-answer_piece.ensures.log.safe
          (kept_still was trace traced part.serves.text part.serves.told c.in_err-write_trace.ensures.err) faults.Device part.serves.written tt;
      settled = tt;
      least = c.in_ok-answer_piece.ensures.log.least;
      uncut = c.in_err-write_trace.ensures.uncut;
      end = tt;
      read = λ h. cc;
      write = λ h. cc;
      reads = c.in_ok-count.ensures.reads;
      writes = refl;
    })

pub returns-in_err-release : goal.returns-in_err-release
returns-in_err-release g c =
    let mid = g.R.Source.bytes c.args.reader.now in
    let to = g.R.Source.bytes c.read_piece.new.reader in
    let more : Consumes mid to c.front.result.now = subst (Consumes mid to) (sym c.front.ensures.bytes) c.in_ok-count.ensures.bytes.0 in
    let p = err_from_is_err_and c.from_residual-in_err-release.result c.from_residual-in_err-release.ensures.1 in
    rw (p.1, p.2) (record {
      ok = λ keep from before was start reads part. tt;
      err = λ keep from before was start reads part.
          let both = c.in_ok-answer_piece.ensures.ok (last_part part.serves.read) part.kept in
          stops_release keep from mid to before _ _ was _ _ start c.args.service.now c.answer_piece.new.service c.release.new.self
          c.args.line.now.items c.front.result.now reads part more both.1 c.in_ok-write_trace.ensures.ok c.in_ok-answer_piece.ensures.log
          c.in_err-release.ensures.served _ c.in_err-release.ensures.err;
      settled = tt;
      least = c.in_err-release.ensures.least ∙ c.in_ok-answer_piece.ensures.log.least;
      uncut = c.in_ok-write_trace.ensures.uncut;
      end = tt;
      read = λ h. absurd (held_not_read (g.W.Sink.bytes c.args.writer.now) (g.W.Sink.bytes c.release.new.writer) c.answer_piece.new.service
          c.release.new.self _ c.in_err-release.ensures.err h);
      write = c.in_err-release.ensures.refused;
      reads = c.in_ok-count.ensures.reads ∙ held_reads (g.W.Sink.bytes c.args.writer.now) (g.W.Sink.bytes c.release.new.writer)
          c.answer_piece.new.service c.release.new.self _ (g.R.Source.failures c.args.reader.now) c.in_err-release.ensures.err;
      writes = c.in_err-release.ensures.writes;
    })

pub returns-clause-ok : goal.returns-clause-ok
returns-clause-ok g c = λ keep from before was start reads part.
    let mid = g.R.Source.bytes c.args.reader.now in
    let to = g.R.Source.bytes c.read_piece.new.reader in
    let more : Consumes mid to c.front.result.now = subst (Consumes mid to) (sym c.front.ensures.bytes) c.in_ok-count.ensures.bytes.0 in
    let both = c.in_ok-answer_piece.ensures.ok (last_part part.serves.read) part.kept in
    let brought : 0 < length c.front.result.now =
    omega (arith, ap length c.front.ensures.bytes, c.in_ok-count.ensures.bound.1, c.if-count-eq0.false) in
    serves_batch keep from mid to before _ _ was _ _ start c.args.service.now c.answer_piece.new.service c.args.line.now.items c.front.result.now
    reads part more both.1 c.in_ok-write_trace.ensures.ok brought c.release.new.self c.answer_piece.new.line.items c.in_ok-release.ensures.served
    c.in_ok-release.ensures.ok both.0

pub returns-clause-settled : goal.returns-clause-settled
returns-clause-settled g c = λ more. c.in_ok-release.ensures.ok.settled
