use Rattle.std.proofs.Common.{ℕ, sym, subst}
use Rattle.trace_weave.specs.Weave.{SticksAt}
use Rattle.woven_verdict.proofs.Placed.{ends_all, ends_held}
use Rattle.woven_verdict.proofs.judging.end.Goals as goal

pub returns-in-Some-clause-stuck : goal.returns-in-Some-clause-stuck
returns-in-Some-clause-stuck g c = λ schema hs counts trace holds placed held.
    let left = c.in-Some.ensures.some hs counts holds in
    let both = ends_held schema hs counts trace c.args.judged.now c.in-Some.site left held placed in
    (both.0, subst (λ (n : ℕ). SticksAt hs c.in-Some.site n) (sym (c.next_number.ensures hs counts left.entry holds left.next)) both.1)

pub returns-in-None-clause-verdict : goal.returns-in-None-clause-verdict
returns-in-None-clause-verdict g c = λ schema hs counts trace holds placed. record {
  trace = trace;
  woven = ends_all schema hs counts trace c.args.judged.now (c.in-None.ensures.none hs counts holds) placed;
  verdict = c.verdict.ensures.verdict schema trace placed.judged;
  count = c.verdict.ensures.count schema trace placed.judged;
}
