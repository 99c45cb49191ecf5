use Rattle.std.proofs.Common.{List, ◌+◌, sym, subst, Option}
use Rattle.field_bounds.specs.declared.id.SiteNo.{SiteNo}
use Rattle.field_bounds.specs.declared.entry.Statement.{Statement}
use Rattle.site_workers.specs.Scripts.{histories_of}
use Rattle.site_workers.specs.Crossing.{IsLowest, LacksIn, TakesIn, LacksBefore, TakesBefore}
use Rattle.site_workers.proofs.Lowest.{lowest_next, some_lost, none_lost}
use Rattle.site_workers.proofs.crossing.lost.Goals as goal

pub loop-history-preserved : goal.loop-history-preserved
loop-history-preserved c =
    let sets = c.in_ok-accepted.accepted.items in
    let hs = histories_of c.args.histories.now in
    let now = subst (λ (l : List (List Statement)).
    IsLowest (LacksIn l c.as_slice-in-loop-history.result.now)
    (TakesIn l c.as_slice-in-loop-history.result.now) c.lowest_lacking.result) c.as_slice.ensures.value c.lowest_lacking.ensures in
    subst (λ (o : Option SiteNo). IsLowest (LacksBefore sets hs (c.loop-history.history-index + 1))
    (TakesBefore sets hs (c.loop-history.history-index + 1)) o) (sym c.lower_of-lowest.ensures)
    (lowest_next sets c.args.histories.now c.loop-history.history-index c.history-item.result c.as_slice-in-loop-history.result.now
    c.loop-history.lowest c.lowest_lacking.result c.loop-history-test.true c.history-item.is c.as_slice-in-loop-history.ensures.value
    c.loop-history.invariant now)

pub returns-clause-some : goal.returns-clause-some
returns-clause-some c = some_lost c.in_ok-accepted.accepted.items c.args.histories.now c.loop-history.history-index
    c.loop-history-test.false c.in_ok-accepted.ensures c.loop-history.lowest c.loop-history.invariant

pub returns-clause-none : goal.returns-clause-none
returns-clause-none c = none_lost c.in_ok-accepted.accepted.items c.args.histories.now c.loop-history.history-index
    c.loop-history-test.false c.in_ok-accepted.ensures c.loop-history.lowest c.loop-history.invariant
