use Rattle.std.proofs.Common.{◌≡◌, ℕ, ◌<◌, false}
use Rattle.field_bounds.specs.Effects.{same_txn}
use Rattle.escrow_journal.specs.declared.journal.OpenTransaction.{OpenTransaction}
use Rattle.std.specs.Prelude.{slice_index_or}
use Rattle.escrow_journal.proofs.journal.look_through.Given as goal

-- none of the rows so far is the transaction's
abbrev pub invariant-loop-i : goal.invariant-loop-i
invariant-loop-i l = (k : ℕ) (d : OpenTransaction) → k < l.i → same_txn (slice_index_or l.rows k d).txn l.txn ≡ false
