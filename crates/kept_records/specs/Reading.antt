-- What record the words of a line spell, word by word (this project).
use Rattle.std.specs.Prelude.{◌≡◌, ℕ, zero, suc, ◌+◌, ◌^◌, ℤ, unsigned_abs, List, [], ◌∷◌, ◌++◌, length, Option, Some, None, Result, Ok, Err, nat_le, Bool, true, false, ◌&&◌, ◌==◌, if◌then◌else◌}
use Rattle.field_bounds.specs.Limits.{max_fields}
use Rattle.field_bounds.specs.Owed.{max_change, max_total, max_escrows, max_number, max_epoch}
use Rattle.field_bounds.specs.declared.kind.Kind.{Kind}
use Rattle.field_bounds.specs.declared.kind.Kind.TheVariants.{Lower, Raise}
use Rattle.field_bounds.specs.declared.entry.Escrow.{Escrow}
use Rattle.line_words.specs.Reading.{◌>>=◌, number_of, signed_of, word_at, only_value}
use Rattle.kept_records.specs.declared.record.Record.{Record}
use Rattle.kept_records.specs.declared.record.Record.TheVariants.{Commit, Gift, Accept, Tighten, Restart, Summary}
use Rattle.kept_records.specs.declared.total.Total.{Total}
use Rattle.kept_records.specs.declared.total.Cut.{Cut}
use Rattle.kept_records.specs.Summary.{rises, cuts_rise}
use Rattle.kept_records.specs.declared.reading.LineFault.{LineFault}
use Rattle.kept_records.specs.declared.reading.LineFault.TheVariants as faults
use Rattle.kept_records.specs.Text.{max_place}

-- ---- one word

-- The number from a least to a greatest one that the word spells.
unfoldable pub number_within : ℕ → ℕ → List ℕ → Option ℕ
number_within least most w = do
  n ← number_of (2 ^ 64) w
  if nat_le least n && nat_le n most then Some n else None

-- The change that the word spells: other than 0, and not too large without its sign.
unfoldable pub change_of : List ℕ → Option ℤ
change_of w = do
  z ← signed_of w
  if nat_le 1 (unsigned_abs z) && nat_le (unsigned_abs z) max_change then Some z else None

-- The kind of the letter l (108) or r (114).
abbrev pub kind_of : List ℕ → Option Kind
kind_of [] = None
kind_of (c ∷ d ∷ ds) = None
kind_of (c ∷ []) = if c == 108 then Some Lower else (if c == 114 then Some Raise else None)

-- ---- the words behind the letter

-- The other site, the field, the kind and the total, and no word more.
unfoldable pub total_from : List (List ℕ) → Option Total
total_from ws = do
  other ← word_at (number_within 0 max_place) ws
  field ← word_at (number_within 0 max_place) other.1
  kind ← word_at kind_of field.1
  total ← word_at (number_within 1 max_total) kind.1
  only_value (record { site = record { 0 = other.0 }; field = record { 0 = field.0 }; kind = kind.0; total = total.0 }, total.1)

-- A gift to the other site.
unfoldable pub gift_from : List (List ℕ) → Option Record
gift_from ws = do
  t ← total_from ws
  Some (Gift t.site t.field t.kind t.total)

-- An acceptance from the other site.
unfoldable pub accept_from : List (List ℕ) → Option Record
accept_from ws = do
  t ← total_from ws
  Some (Accept t.site t.field t.kind t.total)

-- A field, a kind and a total that was given up, and no word more.
unfoldable pub cut_from : List (List ℕ) → Option Cut
cut_from ws = do
  field ← word_at (number_within 0 max_place) ws
  kind ← word_at kind_of field.1
  total ← word_at (number_within 1 max_change) kind.1
  only_value (record { field = record { 0 = field.0 }; kind = kind.0; total = total.0 }, total.1)

-- A tightening.
unfoldable pub tighten_from : List (List ℕ) → Option Record
tighten_from ws = do
  t ← cut_from ws
  Some (Tighten t.field t.kind t.total)

-- An epoch, and no word more.
unfoldable pub restart_from : List (List ℕ) → Option Record
restart_from ws = do
  epoch ← word_at (number_within 1 max_epoch) ws
  only_value (Restart epoch.0, epoch.1)

-- Pairs of a field and a change, up to the last word.
unfoldable pub escrows_from : List (List ℕ) → Option (List Escrow)
escrows_from [] = Some []
escrows_from (w ∷ []) = None
escrows_from (w ∷ v ∷ ws) = do
  field ← number_within 0 max_place w
  change ← change_of v
  es ← escrows_from ws
  Some (record { field = record { 0 = field }; change = change } ∷ es)

-- The id of a transaction and 1 to 16 escrows.
unfoldable pub commit_from : List (List ℕ) → Option Record
commit_from ws = do
  epoch ← word_at (number_within 0 max_epoch) ws
  number ← word_at (number_within 1 max_number) epoch.1
  es ← escrows_from number.1
  if nat_le 1 (length es) && nat_le (length es) max_escrows then Some (Commit (record { epoch = epoch.0; number = number.0 }) es) else None

-- ---- the words of a summary

-- So many pairs of rights behind those that were read, and the words behind them.
unfoldable pub rights_from : ℕ → List (ℕ × ℕ) → List (List ℕ) → Option (List (ℕ × ℕ) × List (List ℕ))
rights_from zero read ws = Some (read, ws)
rights_from (suc n) read ws = do
  lower ← word_at (number_within 0 max_change) ws
  raise ← word_at (number_within 0 max_change) lower.1
  if nat_le (lower.0 + raise.0) max_change then rights_from n (read ++ (lower.0, raise.0) ∷ []) raise.1 else None

-- The next total of a group, of the four words behind its letter, and the words behind them.
unfoldable pub listed_at : List (List ℕ) → Option (Total × List (List ℕ))
listed_at (w ∷ v ∷ x ∷ y ∷ ws) = do
  t ← total_from (w ∷ v ∷ x ∷ y ∷ [])
  Some (t, ws)
listed_at ws = None

-- The next total given up, of the three words behind its letter, and the words behind them.
unfoldable pub cut_at : List (List ℕ) → Option (Cut × List (List ℕ))
cut_at (w ∷ v ∷ x ∷ ws) = do
  t ← cut_from (w ∷ v ∷ x ∷ [])
  Some (t, ws)
cut_at ws = None

-- Whether a word is this one letter.
abbrev pub word_is : ℕ → List ℕ → Bool
word_is letter [] = false
word_is letter (c ∷ []) = c == letter
word_is letter (c ∷ d ∷ ds) = false

-- Whether nothing was read so far.
abbrev pub is_none_of : {A : Type 0} → List A → Bool
is_none_of [] = true
is_none_of (t ∷ ts) = false

-- Whether a letter is that of an acceptance (97) where no total given up came before it, or of a gift (103) where
-- neither came.
abbrev pub is_next_accept : List ℕ → List Cut → Bool
is_next_accept letter cuts = is_none_of cuts && word_is 97 letter

abbrev pub is_next_gift : List ℕ → List Total → List Cut → Bool
is_next_gift letter accepts cuts = is_none_of accepts && is_none_of cuts && word_is 103 letter

-- Gifts, then acceptances and then totals given up (116), behind those that were read, up to the last word.
unfoldable pub groups_from : List Total → List Total → List Cut → List (List ℕ) → Option (List Total × List Total × List Cut)
groups_from gifts accepts cuts [] = Some (gifts, accepts, cuts)
groups_from gifts accepts cuts (l ∷ w ∷ v ∷ x ∷ []) =
    if word_is 116 l then (do
      t ← cut_from (w ∷ v ∷ x ∷ [])
      Some (gifts, accepts, cuts ++ t ∷ [])) else None
groups_from gifts accepts cuts (l ∷ w ∷ v ∷ x ∷ y ∷ ws) =
    if word_is 116 l then (do
      t ← cut_from (w ∷ v ∷ x ∷ [])
      groups_from gifts accepts (cuts ++ t ∷ []) (y ∷ ws)) else (do
        t ← total_from (w ∷ v ∷ x ∷ y ∷ [])
        if is_next_accept l cuts then groups_from gifts (accepts ++ t ∷ []) cuts ws
            else (if is_next_gift l accepts cuts then groups_from (gifts ++ t ∷ []) accepts cuts ws else None))
groups_from gifts accepts cuts ws = None

-- An epoch, how many fields there are and the rights of each, the three groups, and no word more.
unfoldable pub summary_from : List (List ℕ) → Option Record
summary_from ws = do
  epoch ← word_at (number_within 0 max_epoch) ws
  count ← word_at (number_within 1 max_fields) epoch.1
  rights ← rights_from count.0 [] count.1
  groups ← groups_from [] [] [] rights.1
  if rises groups.0 && rises groups.1 && cuts_rise groups.2
      then Some (Summary epoch.0 rights.0 groups.0 groups.1 groups.2)
      else None

-- ---- a line

-- A word of one byte.
abbrev pub letter_at : List ℕ → Option ℕ
letter_at [] = None
letter_at (c ∷ []) = Some c
letter_at (c ∷ d ∷ ds) = None

-- The record of a letter, C (67), G (71), A (65), R (82), S (83) or T (84), and the words behind it.
abbrev pub record_from : ℕ → List (List ℕ) → Option Record
record_from letter ws = if letter == 67 then commit_from ws
    else (if letter == 71 then gift_from ws else (if letter == 65 then accept_from ws
    else (if letter == 82 then restart_from ws else
    (if letter == 83 then summary_from ws else (if letter == 84 then tighten_from ws else None)))))

-- The record that the words of a line spell.
unfoldable pub record_of : List (List ℕ) → Option Record
record_of [] = None
record_of (w ∷ ws) = do
  letter ← letter_at w
  record_from letter ws

-- What a reader of some words answers, with the words that it left, unless memory is wanting.
abbrev pub TellsPrefix : {A : Type 0} → Result A LineFault → List (List ℕ) → Option (A × List (List ℕ)) → Type 0
TellsPrefix (Ok x) left read = read ≡ Some (x, left)
TellsPrefix (Err faults.NoRecord) left read = read ≡ None
TellsPrefix (Err faults.NoMemory) left read = Unit {0}

-- What a reader of a line answers: what is spelled, unless memory is wanting.
abbrev pub Tells : {A : Type 0} → Result A LineFault → Option A → Type 0
Tells (Ok x) read = read ≡ Some x
Tells (Err faults.NoRecord) read = read ≡ None
Tells (Err faults.NoMemory) read = Unit {0}
