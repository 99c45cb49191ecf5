use Rattle.kept_records.proofs.Pieces.{leaves_front}
use Rattle.kept_records.proofs.laws.torn_piece_leaves_a_front.Goals as goal

pub returns : goal.returns
returns c = record { front = λ bytes rs ps k log fits. leaves_front bytes rs ps k log fits }
