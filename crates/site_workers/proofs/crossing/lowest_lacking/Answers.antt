use Rattle.std.proofs.Common.{◌+◌, take, sym, subst, Option}
use Rattle.field_bounds.specs.declared.id.SiteNo.{SiteNo}
use Rattle.site_workers.specs.Crossing.{IsLowest, LacksIn, TakesIn}
use Rattle.site_workers.proofs.Lowest.{lowest_step}
use Rattle.site_workers.proofs.crossing.lowest_lacking.Goals as goal

pub loop-entry-preserved : goal.loop-entry-preserved
loop-entry-preserved c =
    subst (λ (o : Option SiteNo). IsLowest (LacksIn c.args.accepted.now (take (c.loop-entry.entry-index + 1) c.args.history.now))
    (TakesIn c.args.accepted.now (take (c.loop-entry.entry-index + 1) c.args.history.now)) o)
    (sym c.lower_of-lowest.ensures)
    (lowest_step c.args.accepted.now c.args.history.now c.loop-entry.entry-index _ c.loop-entry.lowest c.lacking.result
    c.loop-entry-test.true c.loop-entry.invariant c.lacking.ensures)
