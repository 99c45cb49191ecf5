use Rattle.std.proofs.Common.{◌≡◌, ◌++◌, length}
use Rattle.std.specs.List.{AllByRecursion}
use Rattle.kept_records.specs.Text.{IsEscrow, escrow_words, words_spaced}
use Rattle.kept_records.proofs.straight.escrows.Given as goal

abbrev pub invariant-loop-escrow : goal.invariant-loop-escrow
invariant-loop-escrow l = record {
  parts : l.fn.bytes ≡ words_spaced (escrow_words l.held.items) ++ l.left;
  ranges : AllByRecursion IsEscrow l.held.items;
}

abbrev pub decreases-loop-escrow : goal.decreases-loop-escrow
decreases-loop-escrow l = length l.left
