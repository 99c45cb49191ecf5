use Rattle.kept_state.proofs.LogRows.{not_twice, not_too_much, not_the_same, not_again, not_old, not_cut_too_far, not_cut_twice, not_without_room}
use Rattle.kept_state.proofs.worked.wrong_records.Goals as goal

pub returns-clause-commit_twice : goal.returns-clause-commit_twice
returns-clause-commit_twice c = λ h. not_twice h

pub returns-clause-too_much : goal.returns-clause-too_much
returns-clause-too_much c = λ h. not_too_much h

pub returns-clause-same_total : goal.returns-clause-same_total
returns-clause-same_total c = λ h. not_the_same h

pub returns-clause-same_epoch : goal.returns-clause-same_epoch
returns-clause-same_epoch c = λ h. not_again h

pub returns-clause-old_commit : goal.returns-clause-old_commit
returns-clause-old_commit c = λ h. not_old h

pub returns-clause-cut_too_far : goal.returns-clause-cut_too_far
returns-clause-cut_too_far c = λ h. not_cut_too_far h

pub returns-clause-cut_twice : goal.returns-clause-cut_twice
returns-clause-cut_twice c = λ h. not_cut_twice h

pub returns-clause-no_room : goal.returns-clause-no_room
returns-clause-no_room c = λ h. not_without_room h
