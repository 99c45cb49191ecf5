use Rattle.central_machine.proofs.Sums_put.{grown}
use Rattle.central_machine.proofs.field_sums.grow.Goals as goal

pub returns : goal.returns
returns c =
    grown c.args.field.0 c.args.amounts.now c.put.new.self c.args.kind c.args.size
    (rw (c.saturating_add-more.ensures, c.at.ensures, c.from-place.ensures) at c.put.ensures)
