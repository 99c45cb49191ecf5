use Rattle.std.proofs.Common.{rules}
use Rattle.file_medium.proofs.medium.FileMedium.cut_both.Goals as goal

pub returns-in-Err-clause-not_cut : goal.returns-in-Err-clause-not_cut
returns-in-Err-clause-not_cut g c = search rules
