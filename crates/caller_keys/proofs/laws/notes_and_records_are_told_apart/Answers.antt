use Rattle.caller_keys.proofs.Texts.{one_keyed}
use Rattle.caller_keys.proofs.laws.notes_and_records_are_told_apart.Goals as goal

pub returns : goal.returns
returns c = record { one = one_keyed }
