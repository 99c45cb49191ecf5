use Rattle.site_step.proofs.Lines.{lines_stay, all_stay}
use Rattle.site_step.proofs.laws.no_line_is_dropped.Goals as goal

pub returns-clause-lines : goal.returns-clause-lines
returns-clause-lines c = λ before later rs rest command reply log applies. lines_stay before later rs rest command reply log applies

pub returns-clause-all : goal.returns-clause-all
returns-clause-all c = λ before later rs command reply log applies. all_stay before later rs command reply log applies
