use Rattle.site_workers.proofs.Traffic.{issued_step, issued_whole}
use Rattle.site_workers.proofs.statement_sets.issued_by.Goals as goal

pub loop-entry-preserved : goal.loop-entry-preserved
loop-entry-preserved c = issued_step c.args.history.now c.loop-entry.entry-index _ c.loop-entry.set c.insert_issued.new.self
    c.loop-entry-test.true c.loop-entry.invariant c.in_ok-insert_issued.ensures.ok

pub returns : goal.returns
returns c = issued_whole c.args.history.now c.loop-entry.entry-index c.loop-entry.set c.loop-entry-test.false c.loop-entry.invariant
