use Rattle.std.proofs.Common.{◌≡◌, ◌++◌, take}
use Rattle.kept_records.specs.Text.{words_spaced, escrow_words}
use Rattle.kept_records.proofs.writing.push_escrows.Given as goal

abbrev pub invariant-loop-escrow : goal.invariant-loop-escrow
invariant-loop-escrow l = l.line.items ≡ l.fn.line.items ++ words_spaced (escrow_words (take l.escrow-index l.escrows))
