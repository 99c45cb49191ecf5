use Rattle.std.proofs.Common.{◌∷◌, [], ◌++◌, List, refl, ap, ◌∙◌, w64}
use Rattle.std.proofs.lemmas.Int.{to_z-of_z}
use Rattle.std.specs.Prelude.{ℕ, false, unsigned_abs, Some, None}
use Rattle.field_bounds.specs.declared.entry.Refusal.TheVariants.{NoTransaction}
use Rattle.field_bounds.specs.declared.entry.Reply.TheVariants.{Granted}
use Rattle.field_bounds.specs.Kind.{kind_of}
use Rattle.field_bounds.specs.Owed.{Test, first, max_change, test_no_transaction, test_short, test_too_many_escrows}
use Rattle.central_rules.proofs.Rungs.{field_tests, amount_tests, field_there, refused, passed, not_open, is_open}
use Rattle.central_rules.proofs.ladder.fits_escrow.Goals as goal

pub returns-in-Some : goal.returns-in-Some
returns-in-Some g c = λ at is.
    let size = unsigned_abs c.args.change in
    let last : List Test = test_short at c.args.field (kind_of c.args.change) size ∷ test_too_many_escrows at c.args.txn ∷ [] in
    refused Granted false c.args.reply (field_tests at c.args.field)
    (test_no_transaction at c.args.txn ∷ amount_tests max_change size ++ last) _
    (c.field_refusal.ensures at is) _ c.in-Some.is _ c.is_refused.ensures

pub returns-in_default-open_escrows : goal.returns-in_default-open_escrows
returns-in_default-open_escrows g c = λ at is.
    let size = unsigned_abs c.args.change in
    let last : List Test = test_short at c.args.field (kind_of c.args.change) size ∷ test_too_many_escrows at c.args.txn ∷ [] in
    passed Granted false c.args.reply (field_tests at c.args.field)
    (test_no_transaction at c.args.txn ∷ amount_tests max_change size ++ last) _
    (c.field_refusal.ensures at is) c.in_default.is _
    (refused Granted false c.args.reply (test_no_transaction at c.args.txn ∷ []) (amount_tests max_change size ++ last)
    (Some NoTransaction)
    (not_open at c.args.txn _ (c.open_escrows.ensures.open at is) c.in_default-open_escrows.is) _ refl _
    c.is_refused-in_default-open_escrows.ensures)

pub returns-in-Some-amount_refusal : goal.returns-in-Some-amount_refusal
returns-in-Some-amount_refusal g c = λ at is.
    let size = unsigned_abs c.args.change in
    let last : List Test = test_short at c.args.field (kind_of c.args.change) size ∷ test_too_many_escrows at c.args.txn ∷ [] in
    let whole = to_z-of_z w64 c.args.change c.ranges.change in
    let size_is = c.unsigned_abs-amount.ensures.value ∙ ap unsigned_abs whole in
    let sized = c.amount_refusal.ensures ∙ ap (λ (n : ℕ). first (amount_tests max_change n)) size_is in
    passed Granted false c.args.reply (field_tests at c.args.field)
    (test_no_transaction at c.args.txn ∷ amount_tests max_change size ++ last) _
    (c.field_refusal.ensures at is) c.in_default.is _
    (passed Granted false c.args.reply (test_no_transaction at c.args.txn ∷ []) (amount_tests max_change size ++ last) None
    (is_open at c.args.txn _ (c.open_escrows.ensures.open at is) _ c.in-Some-open_escrows.is) refl _
    (refused Granted false c.args.reply (amount_tests max_change size) last _ sized _ c.in-Some-amount_refusal.is _
    c.is_refused-in-Some-amount_refusal.ensures))

pub returns : goal.returns
returns g c = λ at is.
    let size = unsigned_abs c.args.change in
    let last : List Test = test_short at c.args.field (kind_of c.args.change) size ∷ test_too_many_escrows at c.args.txn ∷ [] in
    let whole = to_z-of_z w64 c.args.change c.ranges.change in
    let size_is = c.unsigned_abs-amount.ensures.value ∙ ap unsigned_abs whole in
    let sized = c.amount_refusal.ensures ∙ ap (λ (n : ℕ). first (amount_tests max_change n)) size_is in
    let inside = field_there at _ c.in_default.is c.args.field (c.field_refusal.ensures at is) in
    let told = rw (c.of.ensures.value ∙ ap kind_of whole, size_is, c.in-Some-open_escrows.ensures.count at is)
    at (c.fits_grant.ensures at is inside) in
    passed Granted false c.args.reply (field_tests at c.args.field)
    (test_no_transaction at c.args.txn ∷ amount_tests max_change size ++ last) _
    (c.field_refusal.ensures at is) c.in_default.is _
    (passed Granted false c.args.reply (test_no_transaction at c.args.txn ∷ []) (amount_tests max_change size ++ last) None
    (is_open at c.args.txn _ (c.open_escrows.ensures.open at is) _ c.in-Some-open_escrows.is) refl _
    (passed Granted false c.args.reply (amount_tests max_change size) last _ sized c.in_default-amount_refusal.is _ told))
