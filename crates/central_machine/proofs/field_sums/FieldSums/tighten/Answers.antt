use Rattle.std.proofs.Common.{rules}
use Rattle.central_machine.proofs.field_sums.FieldSums.tighten.Goals as goal

pub returns : goal.returns
returns c = search rules
