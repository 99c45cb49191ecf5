use Rattle.std.proofs.Common.{rules}
use Rattle.file_medium.proofs.medium.FileMedium.new.Goals as goal

pub returns-in-Err-clause-handed_back : goal.returns-in-Err-clause-handed_back
returns-in-Err-clause-handed_back g c = search rules

pub returns-in-Err-clause-not_cut : goal.returns-in-Err-clause-not_cut
returns-in-Err-clause-not_cut g c = search rules
