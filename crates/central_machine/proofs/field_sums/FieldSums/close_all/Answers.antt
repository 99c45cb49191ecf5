use Rattle.std.proofs.Common.{ap, ◌∙◌}
use Rattle.central_machine.specs.declared.journal.OpenRow.{OpenRow}
use Rattle.central_machine.proofs.Sums_put.{closes_row}
use Rattle.central_machine.proofs.field_sums.FieldSums.close_all.Goals as goal

pub loop-row-preserved : goal.loop-row-preserved
loop-row-preserved c =
    closes_row c.args.self.now c.loop-row.self c.close.new.self c.args.rows.now c.loop-row.row-index c.row-item.result
    c.loop-row-test.true c.deref.result.now (c.deref.ensures.value ∙ ap (λ (r : OpenRow). r.escrows.items) c.row-item.is)
    c.loop-row.invariant c.close.ensures
