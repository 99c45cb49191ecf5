use Rattle.std.proofs.Common.{take}
use Rattle.central_machine.specs.Open.{all_escrows}
use Rattle.central_machine.specs.Sums.{Closes}
use Rattle.central_machine.proofs.field_sums.FieldSums.close_all.Given as goal

abbrev pub invariant-loop-row : goal.invariant-loop-row
invariant-loop-row l = Closes l.fn.self l.self (all_escrows (take l.row-index l.rows))
