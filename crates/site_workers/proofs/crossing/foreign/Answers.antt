use Rattle.std.proofs.Common.{List, sym, subst}
use Rattle.field_bounds.specs.declared.entry.Statement.{Statement}
use Rattle.site_workers.specs.Scripts.{histories_of}
use Rattle.site_workers.specs.Crossing.{AreIssued}
use Rattle.site_workers.proofs.Lowest.{foreign_next, lowest_foreign}
use Rattle.site_workers.proofs.crossing.foreign.Goals as goal

pub returns-in-Some-clause-some : goal.returns-in-Some-clause-some
returns-in-Some-clause-some c =
    let known = subst (λ (l : List (List Statement)). AreIssued (histories_of c.args.histories.now) l)
    (sym c.as_slice.ensures.value) c.in_ok-issued.ensures in
    lowest_foreign c.as_slice.result.now c.args.histories.now known c.loop-site.site c.index-histories-site.result
    c.as_slice-in-loop-site.result.now _ c.loop-site-test.true c.index-histories-site.is c.as_slice-in-loop-site.ensures.value
    c.in-Some.ensures.some c.loop-site.invariant

pub loop-site-preserved : goal.loop-site-preserved
loop-site-preserved c =
    let known = subst (λ (l : List (List Statement)). AreIssued (histories_of c.args.histories.now) l)
    (sym c.as_slice.ensures.value) c.in_ok-issued.ensures in
    foreign_next c.as_slice.result.now c.args.histories.now known c.loop-site.site c.index-histories-site.result
    c.as_slice-in-loop-site.result.now c.loop-site-test.true c.index-histories-site.is c.as_slice-in-loop-site.ensures.value
    c.in_default.ensures.none c.loop-site.invariant
