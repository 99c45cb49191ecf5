use Rattle.kept_state.proofs.Adding.{length_left}
use Rattle.kept_state.proofs.Ranges.{epoch_in_range, record_in_range}
use Rattle.kept_state.proofs.Staying.{run_lawful_more}
use Rattle.kept_state.proofs.Written.{cut_within}
use Rattle.kept_state.proofs.steps.records_may_be_written.Goals as goal

pub returns-clause-written : goal.returns-clause-written
returns-clause-written c = λ at command. length_left at command

pub returns-clause-lawful : goal.returns-clause-lawful
returns-clause-lawful c = λ schema s base bs kept o rs command is run keeps h.
    run_lawful_more schema s base bs is kept o rs run keeps command h

pub returns-clause-in_range : goal.returns-clause-in_range
returns-clause-in_range c = λ schema s base o command good run small few h. record_in_range schema s base o good run small command few h

pub returns-clause-cut : goal.returns-clause-cut
returns-clause-cut c = λ schema s base bs kept o rs command good below is lawful run keeps h.
    cut_within schema s base bs is lawful kept o rs good below run keeps command h

pub returns-clause-epoch : goal.returns-clause-epoch
returns-clause-epoch c = λ schema s base o run small. epoch_in_range schema s base o run small
