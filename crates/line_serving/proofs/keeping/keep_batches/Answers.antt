use Rattle.std.proofs.Common.{◌+◌, Some, [], refl, ap, subst, ◌∙◌, arith, rules}
use Rattle.std.proofs.lemmas.Result.{err_from_is_err_and}
use Rattle.std.proofs.KnownBytes.{Consumes-nil}
use Rattle.line_serving.specs.Serving.{ServesOn}
use Rattle.site_service.specs.Counting.{reads_failed, writes_refused}
use Rattle.site_service.specs.declared.fault.ServeFault.TheVariants as faults
use Rattle.line_serving.proofs.Batches.{stops_behind}
use Rattle.site_service.proofs.Tracing.{kept_of}
use Rattle.line_serving.proofs.keeping.keep_batches.Goals as goal

pub returns-in_err-buffer : goal.returns-in_err-buffer
returns-in_err-buffer g c =
    let mid = g.R.Source.bytes c.args.reader.now in
    let p = err_from_is_err_and c.from_residual.result c.from_residual.ensures.1 in
    rw (p.1, p.2) (record {
      ok = λ from before was start part. tt;
      err = λ from before was start part.
          stops_behind (Some c.args.keep) from mid mid before _ was _ _ start c.args.service.now c.args.service.now [] [] 0 part (Consumes-nil mid) refl
          (kept_of was _ part.serves.text part.serves.told) faults.NoMemory part.serves.written tt;
      uncut = refl;
      end = tt;
      read = λ h. cc;
      write = λ h. cc;
      reads = refl;
      writes = refl;
    })

pub returns-in_err-take_and_shorten : goal.returns-in_err-take_and_shorten
returns-in_err-take_and_shorten g c =
    let inv = c.batches.invariant in
    let p = err_from_is_err_and c.from_residual-in_err-take_and_shorten.result c.from_residual-in_err-take_and_shorten.ensures.1 in
    rw (p.1, p.2) (record {
      ok = λ from before was start part. tt;
      err = λ from before was start part.
          (rw inv.keep at c.in_err-take_and_shorten.ensures.err) from before was start _ (inv.serves from before was start part);
      uncut = c.in_err-take_and_shorten.ensures.uncut ∙ inv.uncut;
      end = tt;
      read = c.in_err-take_and_shorten.ensures.read;
      write = c.in_err-take_and_shorten.ensures.write;
      reads = c.in_err-take_and_shorten.ensures.reads ∙ ap (reads_failed _) inv.reads;
      writes = c.in_err-take_and_shorten.ensures.writes ∙ ap (writes_refused _) inv.writes;
    })

pub returns-then-not-branch : goal.returns-then-not-branch
returns-then-not-branch g c =
    let inv = c.batches.invariant in record {
      ok = λ from before was start part.
          subst (ServesOn (Some c.args.keep) from _ before _ was _ start c.take_and_shorten.new.service c.take_and_shorten.new.line.items (c.batches._reads + 1)) c.if-not-branch.true
          ((rw inv.keep at c.in_ok-take_and_shorten.ensures.ok) from before was start _ (inv.serves from before was start part));
      err = λ from before was start part. tt;
      uncut = c.in_ok-take_and_shorten.ensures.uncut ∙ inv.uncut;
      end = c.in_ok-take_and_shorten.ensures.end c.if-not-branch.true;
      read = tt;
      write = tt;
      reads = c.in_ok-take_and_shorten.ensures.reads ∙ inv.reads;
      writes = c.in_ok-take_and_shorten.ensures.writes ∙ inv.writes;
    }

pub batches-preserved : goal.batches-preserved
batches-preserved g c =
    let inv = c.batches.invariant in record {
      serves = λ from before was start part.
          subst (ServesOn (Some c.args.keep) from _ before _ was _ start c.take_and_shorten.new.service c.take_and_shorten.new.line.items (c.batches._reads + 1)) c.if-not-branch.false
          ((rw inv.keep at c.in_ok-take_and_shorten.ensures.ok) from before was start _ (inv.serves from before was start part));
      some = search rules;
      keep = c.in_ok-take_and_shorten.ensures.keep ∙ inv.keep;
      uncut = c.in_ok-take_and_shorten.ensures.uncut ∙ inv.uncut;
      reads = c.in_ok-take_and_shorten.ensures.reads ∙ inv.reads;
      writes = c.in_ok-take_and_shorten.ensures.writes ∙ inv.writes;
    }

pub returns-clause-err : goal.returns-clause-err
returns-clause-err g c = λ from before was start part.
    let here = c.batches.invariant.serves from before was start part in
    stops_behind (Some c.args.keep) from _ _ before _ was _ _ start c.batches.service c.batches.service c.batches.line.items [] _ here (Consumes-nil _) refl
    (kept_of was _ here.serves.text here.serves.told) faults.TooLong here.serves.written
    (omega (arith, here.some, c.batches-test.false))
