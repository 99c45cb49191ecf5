use Rattle.site_workers.proofs.Traffic.{accepted_step, accepted_whole}
use Rattle.site_workers.proofs.statement_sets.accepted_by.Goals as goal

pub loop-entry-preserved : goal.loop-entry-preserved
loop-entry-preserved c = accepted_step c.args.history.now c.loop-entry.entry-index _ c.loop-entry.set c.insert_accepted.new.set
    c.loop-entry-test.true c.loop-entry.invariant c.in_ok-insert_accepted.ensures.ok

pub returns : goal.returns
returns c = accepted_whole c.args.history.now c.loop-entry.entry-index c.loop-entry.set c.loop-entry-test.false c.loop-entry.invariant
