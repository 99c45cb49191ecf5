use Rattle.std.proofs.Common.{arith, rules}
use Rattle.std.proofs.lemmas.Grind.{common_steps}
use Rattle.kept_records.proofs.lent_records.LentRecords.next_common.Goals as goal

pub returns-clause-handed : goal.returns-clause-handed
returns-clause-handed c = search rules

pub returns-clause-shorter : goal.returns-clause-shorter
returns-clause-shorter c = grind (arith, common_steps)

pub returns-clause-within : goal.returns-clause-within
returns-clause-within c = grind (arith, common_steps)
