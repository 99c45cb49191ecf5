use Rattle.central_machine.proofs.Sums_put.{shrunk}
use Rattle.central_machine.proofs.field_sums.shrink.Goals as goal

pub returns : goal.returns
returns c =
    shrunk c.args.field.0 c.args.amounts.now c.put.new.self c.args.kind c.args.size
    (rw (c.saturating_sub-left.ensures, c.at.ensures, c.from-place.ensures) at c.put.ensures)
