use Rattle.std.proofs.Common.{◌≡◌, refl, ap, sym, ◌∙◌, arith}
use Rattle.field_bounds.specs.Effects.{same_txn}
use Rattle.escrow_journal.specs.declared.journal.OpenTransaction.{OpenTransaction}
use Rattle.escrow_journal.specs.Kept.{rows_of, index_of}
use Rattle.escrow_journal.proofs.Views.{guessed_at, is_there}
use Rattle.escrow_journal.proofs.journal.place.Goals as goal

stands : (c : goal.Then-eq) → c.guess-at.result ≡ index_of c.args.txn c.args.rows.now
stands c =
    let row = c.index-rows-at in
    guessed_at c.args.rows.now c.args.txn c.guess-at.result row.result c.requires.distinct (omega arith) row.is
    (ap (λ (r : OpenTransaction). same_txn r.txn c.args.txn) row.is ∙ sym c.if-eq.ensures)

pub returns-then-eq-clause-there : goal.returns-then-eq-clause-there
returns-then-eq-clause-there c =
    sym (is_there (rows_of c.args.rows.now) c.args.rows.now c.args.txn refl (omega (arith, stands c)))

pub returns-then-eq-clause-first : goal.returns-then-eq-clause-first
returns-then-eq-clause-first c = stands c
