-- Up to which transaction commits may be among the records that a log has let go (this project).
use Rattle.std.specs.Prelude.{◌≡◌, ◌≤◌, ℕ, ◌==◌, ◌&&◌, ◌||◌, not, nat_lt, nat_le, if◌then◌else◌, Bool, true, false, List, [], ◌∷◌, length}
use Rattle.std.specs.List.{list_any}
use Rattle.field_bounds.specs.declared.id.TxnId.{TxnId}
use Rattle.field_bounds.specs.Owed.{max_open, max_number, max_epoch}
use Rattle.field_bounds.specs.Effects.{is_up_to}
use Rattle.log_head.specs.declared.horizon.CommitAnswer.{CommitAnswer}
use Rattle.log_head.specs.declared.horizon.CommitAnswer.TheVariants.{Yes, No, Forgotten}

-- Each commit that is gone is of an earlier epoch than this one, or of this one with at most this number and not listed. Listed are
-- transactions of this epoch that were open when the log was shortened.
pub record HorizonValue : Type 0 where
  pub epoch : ℕ
  pub number : ℕ
  pub open_then : List ℕ

abbrev pub horizon_of : ℕ → ℕ → List ℕ → HorizonValue
horizon_of epoch number open_then = record { epoch = epoch; number = number; open_then = open_then }

-- The numbers rise strictly from above the first one, and none is above the last one.
abbrev pub rises_from : ℕ → ℕ → List ℕ → Bool
rises_from above most [] = true
rises_from above most (n ∷ ns) = nat_lt above n && nat_le n most && rises_from n most ns

-- The numbers are in range: an epoch of 1 to 10^9, a number of 0 to 10^9, and at most 64 that are listed, each 1 to that number,
-- rising strictly.
pub record IsHorizon (h : HorizonValue) : Type 0 where
  pub some_epoch : 1 ≤ h.epoch
  pub few_epochs : h.epoch ≤ max_epoch
  pub few_numbers : h.number ≤ max_number
  pub few_listed : length h.open_then ≤ max_open
  pub rising : rises_from 0 h.number h.open_then ≡ true

abbrev pub is_listed : ℕ → List ℕ → Bool
is_listed n ns = list_any (λ m. m == n) ns

-- The commit of this transaction may be among those that are gone.
abbrev pub is_passed : HorizonValue → TxnId → Bool
is_passed h txn =
    nat_lt txn.epoch h.epoch
    || ((txn.epoch == h.epoch) && nat_le txn.number h.number && not (is_listed txn.number h.open_then))

-- The horizon is true of records, of which these transactions have a commit among them.
abbrev pub IsHorizonOf : HorizonValue → (TxnId → Bool) → Type 0
IsHorizonOf h has_commit = (txn : TxnId) → has_commit txn ≡ true → is_passed h txn ≡ true

-- What is answered of a transaction whose commit is among the held records, or isn't.
abbrev pub answer_of : HorizonValue → TxnId → Bool → CommitAnswer
answer_of h txn true = Yes
answer_of h txn false = if is_passed h txn then Forgotten else No

-- The answer is right, where the commit is among all records, or isn't: yes only where it is, no only where it isn't; and forgotten
-- tells neither.
abbrev pub IsRight : CommitAnswer → Bool → Type 0
IsRight Yes has_commit = has_commit ≡ true
IsRight No has_commit = has_commit ≡ false
IsRight Forgotten has_commit = Unit {0}

abbrev pub last_of : HorizonValue → TxnId
last_of h = record { epoch = h.epoch; number = h.number }

-- Where more records go, of which these transactions have a commit among them: the horizon reaches as far as before, and up to
-- each of these; and a transaction that it lists was beyond it before, and its commit isn't among them.
pub record ReachesFurther (old new : HorizonValue) (has_commit : TxnId → Bool) : Type 0 where
  pub further : is_up_to (last_of new) (last_of old) ≡ true
  pub latest : (txn : TxnId) → has_commit txn ≡ true → is_up_to (last_of new) txn ≡ true
  pub listed : (txn : TxnId) → txn.epoch ≡ new.epoch → is_listed txn.number new.open_then ≡ true
      → (is_passed old txn ≡ false) × (has_commit txn ≡ false)
