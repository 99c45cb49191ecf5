use Rattle.std.proofs.Common.{take}
use Rattle.log_replay.specs.Resuming.{NotesAccepts}
use Rattle.log_replay.proofs.standing.note_accepts.Given as goal

abbrev pub invariant-loop-told : goal.invariant-loop-told
invariant-loop-told l = NotesAccepts l.fn.ledger (take l.told-index l.accepts) l.ledger
