use Rattle.std.proofs.Common.{arith}
use Rattle.std.proofs.lemmas.Grind.{common_steps}
use Rattle.site_rights.proofs.rights.Rights.tighten.Goals as goal

pub overflow_sub-own : goal.overflow_sub-own
overflow_sub-own c = grind (arith, common_steps)

pub overflow_sub-own-2 : goal.overflow_sub-own-2
overflow_sub-own-2 c = grind (arith, common_steps)

pub invariant_of-self : goal.invariant_of-self
invariant_of-self c = grind (arith, common_steps)

pub returns-clause-ok : goal.returns-clause-ok
returns-clause-ok c = grind (arith, common_steps)
