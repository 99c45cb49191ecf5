use Rattle.std.proofs.Common.{arith}
use Rattle.std.proofs.lemmas.Grind.{common_steps}
use Rattle.site_rights.proofs.rights.Rights.take.Goals as goal

pub overflow_sub-taking : goal.overflow_sub-taking
overflow_sub-taking c = grind (arith, common_steps)

pub overflow_sub-taking-2 : goal.overflow_sub-taking-2
overflow_sub-taking-2 c = grind (arith, common_steps)

pub invariant_of-self : goal.invariant_of-self
invariant_of-self c = grind (arith, common_steps)

pub returns-clause-ok : goal.returns-clause-ok
returns-clause-ok c = grind (arith, common_steps)
