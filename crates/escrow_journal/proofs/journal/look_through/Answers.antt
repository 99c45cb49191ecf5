use Rattle.std.proofs.Common.{◌≡◌, arith, refl, sym, ap, ◌∙◌}
use Rattle.std.proofs.lemmas.List.Sums.{position_or_len_is}
use Rattle.field_bounds.specs.Effects.{same_txn}
use Rattle.escrow_journal.specs.declared.journal.OpenTransaction.{OpenTransaction}
use Rattle.escrow_journal.specs.Kept.{rows_of, index_of}
use Rattle.escrow_journal.proofs.JournalLaws.{position_or_len-none}
use Rattle.escrow_journal.proofs.Views.{is_there, is_not_there}
use Rattle.escrow_journal.proofs.journal.look_through.Goals as goal

found_at : (c : goal.Then-eq) → c.loop-i.i ≡ index_of c.args.txn c.args.rows.now
found_at c =
    let i = c.index-rows-i in
    sym (position_or_len_is (λ (r : OpenTransaction). same_txn r.txn c.args.txn) c.args.rows.now c.loop-i.i i.result (omega arith)
    (λ k h. c.loop-i.invariant k i.result h) (λ _. ap (λ (r : OpenTransaction). same_txn r.txn c.args.txn) (sym i.is)
    ∙ sym c.if-eq.ensures))

pub returns-then-eq-clause-there : goal.returns-then-eq-clause-there
returns-then-eq-clause-there c =
    sym (is_there (rows_of c.args.rows.now) c.args.rows.now c.args.txn refl (omega (arith, found_at c)))

pub returns-then-eq-clause-first : goal.returns-then-eq-clause-first
returns-then-eq-clause-first c = found_at c

pub returns-clause-there : goal.returns-clause-there
returns-clause-there c =
    sym (is_not_there (rows_of c.args.rows.now) c.args.rows.now c.args.txn refl
    (position_or_len-none (λ (r : OpenTransaction). same_txn r.txn c.args.txn) c.args.rows.now
    (λ k d h. c.loop-i.invariant k d (omega arith))))
