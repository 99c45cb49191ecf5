use Rattle.escrow_c.proofs.Numbers.{spelled}
use Rattle.escrow_c.proofs.laws.commands_have_numbers.Goals as goal

pub returns : goal.returns
returns c = record { each = spelled }
