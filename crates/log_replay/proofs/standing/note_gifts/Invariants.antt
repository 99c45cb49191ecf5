use Rattle.std.proofs.Common.{take}
use Rattle.log_replay.specs.Resuming.{NotesGifts}
use Rattle.log_replay.proofs.standing.note_gifts.Given as goal

abbrev pub invariant-loop-told : goal.invariant-loop-told
invariant-loop-told l = NotesGifts l.fn.ledger (take l.told-index l.gifts) l.ledger
