use Rattle.kept_records.proofs.Lines.{cut_log, same_log}
use Rattle.kept_records.proofs.Appending.{torn_append}
use Rattle.kept_records.proofs.laws.torn_end_keeps_records.Goals as goal

pub returns-clause-append : goal.returns-clause-append
returns-clause-append c = λ bytes rs r k log fits. torn_append bytes rs r k log fits

pub returns-clause-cut : goal.returns-clause-cut
returns-clause-cut c = λ bytes rs n reads. cut_log bytes rs n reads

pub returns-clause-one : goal.returns-clause-one
returns-clause-one c = λ bytes rs ss a b log other. same_log bytes rs ss a b log other
