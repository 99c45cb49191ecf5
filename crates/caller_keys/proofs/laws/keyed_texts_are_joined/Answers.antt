use Rattle.caller_keys.proofs.Fronts.{joined, notes_alone, plain}
use Rattle.caller_keys.proofs.laws.keyed_texts_are_joined.Goals as goal

pub returns-clause-joined : goal.returns-clause-joined
returns-clause-joined c = joined

pub returns-clause-notes : goal.returns-clause-notes
returns-clause-notes c = notes_alone

pub returns-clause-records : goal.returns-clause-records
returns-clause-records c = plain
