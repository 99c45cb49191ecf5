use Rattle.std.proofs.Common.{Ok, IfNone, subst, ◌∙◌, inr, arith}
use Rattle.std.proofs.lemmas.Result.{err_from_is_err_and}
use Rattle.script_input.specs.Reader.{Finds, Falls, PassesOn}
use Rattle.script_input.proofs.ReaderLemmas.{nexts_from}
use Rattle.script_input.proofs.reader.LineReader.next.Goals as goal

pub returns-in-Some-clause-next : goal.returns-in-Some-clause-next
returns-in-Some-clause-next g c = λ from given reads.
    let inv = c.pieces.invariant in
    let to = g.R.Source.bytes c.pieces.reader in
    let last = g.R.Source.last c.pieces.reader in
    nexts_from from to last given c.args.self.now c.pieces.self c.find.new.self c.args.most c.in-Some.next inv.none inv.more
    (subst (λ f. Finds from to last given c.pieces.self c.find.new.self c.args.most (Ok f)) c.in-Some.is
    (c.in_ok-next.ensures.next from to last given (inv.reads from given reads)))

pub pieces-preserved : goal.pieces-preserved
pieces-preserved g c =
    let inv = c.pieces.invariant in
    let on = subst (λ f. IfNone f (PassesOn c.pieces.self c.find.new.self)) c.in_default.is c.in_ok-next.ensures.passed in
    let falls = subst (λ f. Falls c.pieces.self c.find.new.self f) c.in_default.is c.in_ok-next.ensures.ahead in record {
      none = λ none. c.in_ok-read.ensures.line ∙ on.none (inv.none none);
      more = omega (arith, c.in_ok-read.ensures.line, on.more, inv.more);
      ahead = omega (arith, c.in_ok-read.ensures.ahead, falls, inv.ahead);
      reads = λ from given reads. c.in_ok-read.ensures.ok from given
          (subst (λ f. Finds from (g.R.Source.bytes c.pieces.reader) (g.R.Source.last c.pieces.reader) given c.pieces.self c.find.new.self c.args.most (Ok f))
          c.in_default.is (c.in_ok-next.ensures.next from _ _ given (inv.reads from given reads)));
      no_further = λ from given reads. inr (c.in_ok-read.ensures.no_further from given
          (subst (λ f. Finds from (g.R.Source.bytes c.pieces.reader) (g.R.Source.last c.pieces.reader) given c.pieces.self c.find.new.self c.args.most (Ok f))
          c.in_default.is (c.in_ok-next.ensures.next from _ _ given (inv.reads from given reads))));
      failures = c.in_ok-read.ensures.reads ∙ inv.failures;
    }

pub returns-in_err-read-clause-next : goal.returns-in_err-read-clause-next
returns-in_err-read-clause-next g c = λ from given reads.
    let p = err_from_is_err_and c.from_residual-in_err-read.result c.from_residual-in_err-read.ensures.1 in
    rw (p.1, p.2) (c.in_err-read.ensures.err from given
    (subst (λ f. Finds from (g.R.Source.bytes c.pieces.reader) (g.R.Source.last c.pieces.reader) given c.pieces.self c.find.new.self c.args.most (Ok f))
    c.in_default.is (c.in_ok-next.ensures.next from _ _ given (c.pieces.invariant.reads from given reads))))

pub returns-in_err-read-clause-no_further : goal.returns-in_err-read-clause-no_further
returns-in_err-read-clause-no_further g c = λ from given reads.
    inr (c.in_err-read.ensures.no_further from given
    (subst (λ f. Finds from (g.R.Source.bytes c.pieces.reader) (g.R.Source.last c.pieces.reader) given c.pieces.self c.find.new.self c.args.most (Ok f))
    c.in_default.is (c.in_ok-next.ensures.next from _ _ given (c.pieces.invariant.reads from given reads))))
