use Rattle.kept_records.proofs.Appending.{kept_torn, kept_whole, cut_to_records}
use Rattle.kept_records.proofs.laws.kept_bytes_tell_what_stands.Goals as goal

pub returns-clause-torn : goal.returns-clause-torn
returns-clause-torn c = λ bytes rs r n log fits few. kept_torn bytes rs r n log fits few

pub returns-clause-whole : goal.returns-clause-whole
returns-clause-whole c = λ bytes rs r n log fits all. kept_whole bytes rs r n log fits all

pub returns-clause-cut : goal.returns-clause-cut
returns-clause-cut c = λ bytes rest rs n log size. cut_to_records bytes rest rs n log size
