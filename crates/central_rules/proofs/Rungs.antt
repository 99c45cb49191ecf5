-- A ladder of refusals in two parts: a refusal of the first, or else what the second decides.
use Rattle.std.proofs.Common.{◌≡◌, ℕ, ◌<◌, Bool, true, false, not, List, [], ◌∷◌, ◌++◌, length, refl, sym, ◌∙◌, ap, Option, Some, None}
use Rattle.std.specs.Prelude.{if◌then◌else◌, is_some}
use Rattle.field_bounds.specs.declared.id.FieldNo.{FieldNo}
use Rattle.field_bounds.specs.declared.id.SiteNo.{SiteNo}
use Rattle.field_bounds.specs.declared.id.TxnId.{TxnId}
use Rattle.field_bounds.specs.declared.entry.Statement.{Statement}
use Rattle.field_bounds.specs.declared.entry.Reply.{Reply}
use Rattle.field_bounds.specs.declared.entry.Reply.TheVariants.{Refused}
use Rattle.field_bounds.specs.declared.entry.Refusal.{Refusal}
use Rattle.field_bounds.specs.declared.entry.Refusal.TheVariants.{NoTransaction}
use Rattle.field_bounds.specs.Owed.{Place, Test, first, test_down, test_no_site, test_no_field, test_no_transaction, test_zero, test_too_large}
use Rattle.field_bounds.proofs.Refused.{none_holds, is_below}
use Rattle.central_rules.specs.Ladder.{is_open_at}
use Rattle.central_rules.specs.Replies.{same_reply, answer_test}

found_step : (b : Bool) (r : Refusal) (o p : Option Refusal) (refusal : Refusal) → (if b then Some r else o) ≡ Some refusal
    → (o ≡ Some refusal → p ≡ Some refusal) → (if b then Some r else p) ≡ Some refusal
found_step true r o p refusal h more = h
found_step false r o p refusal h more = more h

found : (above below : List Test) (refusal : Refusal) → first above ≡ Some refusal → first (above ++ below) ≡ Some refusal
found [] below refusal h = cc
found (test ∷ rest) below refusal h = found_step test.0 test.1 (first rest) (first (rest ++ below)) refusal h (found rest below refusal)

past_step : (b : Bool) (r : Refusal) (o p q : Option Refusal) → (if b then Some r else o) ≡ None → (o ≡ None → p ≡ q)
    → (if b then Some r else p) ≡ q
past_step true r o p q h more = cc
past_step false r o p q h more = more h

past : (above below : List Test) → first above ≡ None → first (above ++ below) ≡ first below
past [] below h = refl
past (test ∷ rest) below h = past_step test.0 test.1 (first rest) (first (rest ++ below)) (first below) h (past rest below)

module _ (owed : Reply) (may : Bool) (reply : Reply) (above below : List Test) (o : Option Refusal) (is : o ≡ first above) where
  pub refused : (refusal : Refusal) → o ≡ Some refusal → (b : Bool) → b ≡ same_reply reply (Refused refusal)
      → b ≡ answer_test (first (above ++ below)) owed may reply
  refused refusal here b told = told
      ∙ ap (λ (x : Option Refusal). answer_test x owed may reply) (sym (found above below refusal (sym is ∙ here)))

  pub passed : o ≡ None → (b : Bool) → b ≡ answer_test (first below) owed may reply
      → b ≡ answer_test (first (above ++ below)) owed may reply
  passed none b told = told ∙ ap (λ (x : Option Refusal). answer_test x owed may reply) (sym (past above below (sym is ∙ none)))

-- ---- the first parts

abbrev pub field_tests : Place → FieldNo → List Test
field_tests at field = test_down at ∷ test_no_field at field ∷ []

abbrev pub gift_tests : Place → SiteNo → FieldNo → List Test
gift_tests at to field = test_down at ∷ test_no_site at to ∷ test_no_field at field ∷ []

abbrev pub statement_tests : Place → Statement → List Test
statement_tests at told = test_down at ∷ test_no_site at told.from ∷ test_no_site at told.to ∷ test_no_field at told.field ∷ []

abbrev pub amount_tests : ℕ → ℕ → List Test
amount_tests most amount = test_zero amount ∷ test_too_large most amount ∷ []

module _ (at : Place) (o : Option Refusal) (none : o ≡ None) where
  pub field_there : (field : FieldNo) → o ≡ first (field_tests at field) → field.0 < length at.schema.fields
  field_there field is = is_below field.0 (length at.schema.fields) (none_holds (field_tests at field) (sym is ∙ none)).1.0

  pub gift_there : (to : SiteNo) (field : FieldNo) → o ≡ first (gift_tests at to field)
      → (to.0 < at.schema.sites) × (field.0 < length at.schema.fields)
  gift_there to field is =
      let clear = none_holds (gift_tests at to field) (sym is ∙ none) in
      (is_below to.0 at.schema.sites clear.1.0, is_below field.0 (length at.schema.fields) clear.1.1.0)

  pub statement_there : (told : Statement) → o ≡ first (statement_tests at told)
      → (told.from.0 < at.schema.sites) × (told.field.0 < length at.schema.fields)
  statement_there told is =
      let clear = none_holds (statement_tests at told) (sym is ∙ none) in
      (is_below told.from.0 at.schema.sites clear.1.0, is_below told.field.0 (length at.schema.fields) clear.1.1.1.0)

-- ---- a transaction that isn't open

missing : (b : Bool) → false ≡ b → Some NoTransaction ≡ first ((not b, NoTransaction) ∷ [])
missing true h = cc
missing false h = refl

there : (b : Bool) → true ≡ b → None ≡ first ((not b, NoTransaction) ∷ [])
there true h = refl
there false h = cc

module _ (at : Place) (txn : TxnId) (o : Option ℕ) (is : is_some o ≡ is_open_at at txn) where
  pub not_open : o ≡ None → Some NoTransaction ≡ first (test_no_transaction at txn ∷ [])
  not_open none = missing (is_open_at at txn) (sym (ap (λ (x : Option ℕ). is_some x) none) ∙ is)

  pub is_open : (n : ℕ) → o ≡ Some n → None ≡ first (test_no_transaction at txn ∷ [])
  is_open n some = there (is_open_at at txn) (sym (ap (λ (x : Option ℕ). is_some x) some) ∙ is)
