use Rattle.kept_state.proofs.LogRows.{commit_kept, commit_lost, gift_kept, spare_kept, cut_kept, in_order, kept_rights, cut_rights, kept_lawful, cut_lawful}
use Rattle.kept_state.proofs.worked.worked_records.Goals as goal

pub returns-clause-kept : goal.returns-clause-kept
returns-clause-kept c = commit_kept

pub returns-clause-lost : goal.returns-clause-lost
returns-clause-lost c = commit_lost

pub returns-clause-gifts : goal.returns-clause-gifts
returns-clause-gifts c = gift_kept

pub returns-clause-spares : goal.returns-clause-spares
returns-clause-spares c = spare_kept

pub returns-clause-in_order : goal.returns-clause-in_order
returns-clause-in_order c = in_order

pub returns-clause-rights : goal.returns-clause-rights
returns-clause-rights c = kept_rights

pub returns-clause-lawful : goal.returns-clause-lawful
returns-clause-lawful c = kept_lawful

pub returns-clause-cuts : goal.returns-clause-cuts
returns-clause-cuts c = cut_kept

pub returns-clause-given_up : goal.returns-clause-given_up
returns-clause-given_up c = cut_rights

pub returns-clause-lawful_cuts : goal.returns-clause-lawful_cuts
returns-clause-lawful_cuts c = cut_lawful
