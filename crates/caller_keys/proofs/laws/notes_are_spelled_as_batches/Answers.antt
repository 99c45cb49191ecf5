use Rattle.std.proofs.Common.{refl}
use Rattle.caller_keys.proofs.Spelling.{note_spelled}
use Rattle.caller_keys.proofs.Lines.{body_of}
use Rattle.caller_keys.proofs.laws.notes_are_spelled_as_batches.Goals as goal

pub returns : goal.returns
returns c = record { letters = note_spelled; line = λ n. record { before = body_of n; ends = refl } }
