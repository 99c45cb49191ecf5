use Rattle.std.proofs.Common.{arith, rules}
use Rattle.std.proofs.lemmas.Grind.{common_steps}
use Rattle.kept_records.proofs.torn.TornMediumMedium.append.Goals as goal

pub returns-after-most-piece-clause-ok : goal.returns-after-most-piece-clause-ok
returns-after-most-piece-clause-ok c = search rules

pub returns-after-most-piece-clause-failed : goal.returns-after-most-piece-clause-failed
returns-after-most-piece-clause-failed c = search rules

pub returns-after-most-piece-clause-foretold : goal.returns-after-most-piece-clause-foretold
returns-after-most-piece-clause-foretold c = grind (arith, common_steps)
