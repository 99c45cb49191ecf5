use Rattle.std.proofs.Common.{arith, rules}
use Rattle.std.proofs.lemmas.Grind.{common_steps}
use Rattle.kept_records.proofs.keeping.cut_and_append.Goals as goal

pub cut-requires : goal.cut-requires
cut-requires g c = search rules

pub returns-in_err-cut-clause-added : goal.returns-in_err-cut-clause-added
returns-in_err-cut-clause-added g c = search rules

pub returns-in_err-cut-clause-fate : goal.returns-in_err-cut-clause-fate
returns-in_err-cut-clause-fate g c = search rules

pub returns-clause-added : goal.returns-clause-added
returns-clause-added g c = grind (arith, common_steps)

pub returns-clause-fate : goal.returns-clause-fate
returns-clause-fate g c = grind (arith, common_steps)
