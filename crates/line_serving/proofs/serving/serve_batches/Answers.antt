use Rattle.std.proofs.Common.{◌+◌, None, [], refl, ap, subst, ◌∙◌, arith, rules}
use Rattle.std.proofs.lemmas.Result.{err_from_is_err_and}
use Rattle.std.proofs.KnownBytes.{Consumes-nil}
use Rattle.line_serving.specs.Serving.{ServesOn}
use Rattle.site_service.specs.Counting.{reads_failed, writes_refused}
use Rattle.site_service.specs.declared.fault.ServeFault.TheVariants as faults
use Rattle.line_serving.proofs.Batches.{stops_behind}
use Rattle.site_service.proofs.Tracing.{kept_of}
use Rattle.line_serving.proofs.serving.serve_batches.Goals as goal

pub returns-in_err-buffer : goal.returns-in_err-buffer
returns-in_err-buffer g c =
    let mid = g.R.Source.bytes c.args.reader.now in
    let p = err_from_is_err_and c.from_residual.result c.from_residual.ensures.1 in
    rw (p.1, p.2) (record {
      ok = λ from before was start part. tt;
      err = λ from before was start part.
          stops_behind None from mid mid before _ was _ _ start c.args.service.now c.args.service.now [] [] 0 part (Consumes-nil mid) refl
          (kept_of was _ part.serves.text part.serves.told) faults.NoMemory part.serves.written tt;
      least = refl;
      uncut = refl;
      end = tt;
      read = λ h. cc;
      write = λ h. cc;
      reads = refl;
      writes = refl;
    })

pub returns-in_err-take_batch : goal.returns-in_err-take_batch
returns-in_err-take_batch g c =
    let inv = c.batches.invariant in
    let p = err_from_is_err_and c.from_residual-in_err-take_batch.result c.from_residual-in_err-take_batch.ensures.1 in
    rw (p.1, p.2) (record {
      ok = λ from before was start part. tt;
      err = λ from before was start part. c.in_err-take_batch.ensures.err None from before was start _ (inv.serves from before was start part);
      least = c.in_err-take_batch.ensures.least ∙ inv.least;
      uncut = c.in_err-take_batch.ensures.uncut ∙ inv.uncut;
      end = tt;
      read = c.in_err-take_batch.ensures.read;
      write = c.in_err-take_batch.ensures.write;
      reads = c.in_err-take_batch.ensures.reads ∙ ap (reads_failed _) inv.reads;
      writes = c.in_err-take_batch.ensures.writes ∙ ap (writes_refused _) inv.writes;
    })

pub returns-then-not-branch : goal.returns-then-not-branch
returns-then-not-branch g c =
    let inv = c.batches.invariant in record {
      ok = λ from before was start part.
          subst (ServesOn None from _ before _ was _ start c.take_batch.new.service c.take_batch.new.line.items (c.batches._reads + 1)) c.if-not-branch.true
          (c.in_ok-take_batch.ensures.ok None from before was start _ (inv.serves from before was start part));
      err = λ from before was start part. tt;
      least = c.in_ok-take_batch.ensures.least ∙ inv.least;
      uncut = c.in_ok-take_batch.ensures.uncut ∙ inv.uncut;
      end = c.in_ok-take_batch.ensures.end c.if-not-branch.true;
      read = tt;
      write = tt;
      reads = c.in_ok-take_batch.ensures.reads ∙ inv.reads;
      writes = c.in_ok-take_batch.ensures.writes ∙ inv.writes;
    }

pub batches-preserved : goal.batches-preserved
batches-preserved g c =
    let inv = c.batches.invariant in record {
      serves = λ from before was start part.
          subst (ServesOn None from _ before _ was _ start c.take_batch.new.service c.take_batch.new.line.items (c.batches._reads + 1)) c.if-not-branch.false
          (c.in_ok-take_batch.ensures.ok None from before was start _ (inv.serves from before was start part));
      some = search rules;
      least = c.in_ok-take_batch.ensures.least ∙ inv.least;
      uncut = c.in_ok-take_batch.ensures.uncut ∙ inv.uncut;
      reads = c.in_ok-take_batch.ensures.reads ∙ inv.reads;
      writes = c.in_ok-take_batch.ensures.writes ∙ inv.writes;
    }

pub returns-clause-err : goal.returns-clause-err
returns-clause-err g c = λ from before was start part.
    let here = c.batches.invariant.serves from before was start part in
    stops_behind None from _ _ before _ was _ _ start c.batches.service c.batches.service c.batches.line.items [] _ here (Consumes-nil _) refl
    (kept_of was _ here.serves.text here.serves.told) faults.TooLong here.serves.written
    (omega (arith, here.some, c.batches-test.false))
