use Rattle.std.proofs.Common.{[], None, refl}
use Rattle.log_archives.proofs.Chains.{joined_from, told_joined}
use Rattle.log_archives.proofs.laws.joined_parts_are_one_log.Goals as goal

pub returns-clause-lawful : goal.returns-clause-lawful
returns-clause-lawful c = λ schema s held parts rs joined. joined_from schema s None held parts rs joined

pub returns-clause-told : goal.returns-clause-told
returns-clause-told c = λ schema s held parts rs joined. told_joined schema s None held parts rs [] refl joined
