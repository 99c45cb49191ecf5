use Rattle.std.proofs.Common.{◌+◌, Some, refl, subst}
use Rattle.std.proofs.lemmas.Result.{err_from_is_err_and}
use Rattle.line_serving.specs.Serving.{ServesOn}
use Rattle.line_serving.proofs.Batches.{serves_shorter, stops_either}
use Rattle.line_serving.proofs.keeping.take_and_shorten.Goals as goal

pub shorten_if_due-requires : goal.shorten_if_due-requires
shorten_if_due-requires g c = record { settled = c.in_ok-take_batch.ensures.settled c.if-not-branch.false }

pub returns-in_err-take_batch : goal.returns-in_err-take_batch
returns-in_err-take_batch g c =
    let p = err_from_is_err_and c.from_residual.result c.from_residual.ensures.1 in
    rw (p.1, p.2) (record {
      ok = λ from before was start reads part. tt;
      err = λ from before was start reads part. c.in_err-take_batch.ensures.err (Some c.args.due.now.keep) from before was start reads part;
      uncut = c.in_err-take_batch.ensures.uncut;
      end = tt;
      read = c.in_err-take_batch.ensures.read;
      write = c.in_err-take_batch.ensures.write;
      reads = c.in_err-take_batch.ensures.reads;
      writes = c.in_err-take_batch.ensures.writes;
      keep = refl;
    })

pub returns-then-not-branch : goal.returns-then-not-branch
returns-then-not-branch g c = record {
  ok = λ from before was start reads part.
      subst (ServesOn (Some c.args.due.now.keep) from _ before _ was _ start c.take_batch.new.service c.take_batch.new.line.items (reads + 1)) c.if-not-branch.true
      (c.in_ok-take_batch.ensures.ok (Some c.args.due.now.keep) from before was start reads part);
  err = λ from before was start reads part. tt;
  uncut = c.in_ok-take_batch.ensures.uncut;
  end = λ none. c.in_ok-take_batch.ensures.end c.if-not-branch.true;
  read = tt;
  write = tt;
  reads = c.in_ok-take_batch.ensures.reads;
  writes = c.in_ok-take_batch.ensures.writes;
  keep = refl;
}

pub returns-in_err-shorten_if_due : goal.returns-in_err-shorten_if_due
returns-in_err-shorten_if_due g c =
    let p = err_from_is_err_and c.from_residual-in_err-shorten_if_due.result c.from_residual-in_err-shorten_if_due.ensures.1 in
    rw (p.1, p.2) (record {
      ok = λ from before was start reads part. tt;
      err = λ from before was start reads part.
          stops_either c.args.due.now.keep from _ before _ was _ start c.take_batch.new.service c.shorten_if_due.new.service c.take_batch.new.line.items (reads + 1)
          (subst (ServesOn (Some c.args.due.now.keep) from _ before _ was _ start c.take_batch.new.service c.take_batch.new.line.items (reads + 1)) c.if-not-branch.false
          (c.in_ok-take_batch.ensures.ok (Some c.args.due.now.keep) from before was start reads part)) c.in_err-shorten_if_due.ensures.safe;
      uncut = c.in_ok-take_batch.ensures.uncut;
      end = tt;
      read = λ h. cc;
      write = λ h. cc;
      reads = c.in_ok-take_batch.ensures.reads;
      writes = c.in_ok-take_batch.ensures.writes;
      keep = c.in_err-shorten_if_due.ensures.keep;
    })

pub returns-clause-ok : goal.returns-clause-ok
returns-clause-ok g c = λ from before was start reads part.
    serves_shorter c.args.due.now.keep from _ before _ was _ start c.take_batch.new.service c.shorten_if_due.new.service c.take_batch.new.line.items (reads + 1)
    (subst (ServesOn (Some c.args.due.now.keep) from _ before _ was _ start c.take_batch.new.service c.take_batch.new.line.items (reads + 1)) c.if-not-branch.false
    (c.in_ok-take_batch.ensures.ok (Some c.args.due.now.keep) from before was start reads part)) c.in_ok-shorten_if_due.ensures.shortens
    c.in_ok-shorten_if_due.ensures.waiting c.in_ok-shorten_if_due.ensures.ok
