use Rattle.site_workers.proofs.Traffic.{issued_next}
use Rattle.site_workers.proofs.statement_sets.all_issued.Goals as goal

pub loop-history-preserved : goal.loop-history-preserved
loop-history-preserved c =
    issued_next c.args.histories.now c.loop-history.history-index c.history-item.result c.as_slice.result.now c.loop-history.sets.items
    c.push.new.self.items c.in_ok-set.set c.loop-history-test.true c.history-item.is c.as_slice.ensures.value c.in_ok-push.ensures.items
    c.loop-history.invariant
    c.in_ok-set.ensures
