-- What a record is written as, and in which ranges its numbers lie (this project).
use Rattle.std.specs.Prelude.{◌≡◌, ℕ, ◌+◌, ◌≤◌, ◌<◌, ℤ, true, unsigned_abs, List, [], ◌∷◌, ◌++◌, length}
use Rattle.std.specs.Fmt.{decimal, signed_decimal}
use Rattle.std.specs.List.{flat_map, AllByRecursion}
use Rattle.field_bounds.specs.Limits.{max_fields}
use Rattle.field_bounds.specs.Owed.{max_change, max_total, max_escrows, max_number, max_epoch}
use Rattle.field_bounds.specs.declared.kind.Kind.{Kind}
use Rattle.field_bounds.specs.declared.kind.Kind.TheVariants.{Lower, Raise}
use Rattle.field_bounds.specs.declared.id.SiteNo.{SiteNo}
use Rattle.field_bounds.specs.declared.id.FieldNo.{FieldNo}
use Rattle.field_bounds.specs.declared.entry.Escrow.{Escrow}
use Rattle.kept_records.specs.declared.record.Record.{Record}
use Rattle.kept_records.specs.declared.record.Record.TheVariants.{Commit, Gift, Accept, Tighten, Restart, Summary}
use Rattle.kept_records.specs.declared.total.Total.{Total}
use Rattle.kept_records.specs.declared.total.Cut.{Cut}
use Rattle.kept_records.specs.Summary.{SummaryValue, summary_told, rises, cuts_rise}
use Rattle.line_words.specs.Words.{line}

-- ---- the words of a record

-- A kind is the letter l (108) or r (114).
abbrev pub kind_word : Kind → List ℕ
kind_word Lower = 108 ∷ []
kind_word Raise = 114 ∷ []

-- An escrow is two words, its field and its change.
abbrev pub escrow_words : List Escrow → List (List ℕ)
escrow_words [] = []
escrow_words (e ∷ es) = decimal e.field.0 ∷ signed_decimal e.change ∷ escrow_words es

-- The words behind the letter of a gift or an acceptance: the other site, the field, the kind and the total.
abbrev pub total_words : SiteNo → FieldNo → Kind → ℕ → List (List ℕ)
total_words other field kind total = decimal other.0 ∷ decimal field.0 ∷ kind_word kind ∷ decimal total ∷ []

-- The own rights of each field, to lower and to raise it.
abbrev pub rights_words : List (ℕ × ℕ) → List (List ℕ)
rights_words [] = []
rights_words (r ∷ rs) = decimal r.0 ∷ decimal r.1 ∷ rights_words rs

-- Totals, each behind the letter of its group.
abbrev pub group_words : ℕ → List Total → List (List ℕ)
group_words letter [] = []
group_words letter (t ∷ ts) = (letter ∷ []) ∷ total_words t.site t.field t.kind t.total ++ group_words letter ts

-- The words behind the letter of a tightening: the field, the kind and the total.
abbrev pub cut_words : FieldNo → Kind → ℕ → List (List ℕ)
cut_words field kind total = decimal field.0 ∷ kind_word kind ∷ decimal total ∷ []

-- Totals given up, each behind the letter t (116).
abbrev pub cuts_words : List Cut → List (List ℕ)
cuts_words [] = []
cuts_words (t ∷ ts) = (116 ∷ []) ∷ cut_words t.field t.kind t.total ++ cuts_words ts

-- The words behind the letter of a summary: the epoch, how many fields there are and the rights of each, and three groups:
-- what was given (g, 103), what was accepted (a, 97) and what was given up.
abbrev pub summary_words : SummaryValue → List (List ℕ)
summary_words v =
    decimal v.epoch ∷ decimal (length v.rights) ∷ (rights_words v.rights
    ++ (group_words 103 v.gifts ++ (group_words 97 v.accepts ++ cuts_words v.tightenings)))

-- The letter of a record: C (67), G (71), A (65), T (84), R (82) or S (83).
abbrev pub letter_of : Record → ℕ
letter_of (Commit txn escrows) = 67
letter_of (Gift to field kind total) = 71
letter_of (Accept from field kind total) = 65
letter_of (Tighten field kind total) = 84
letter_of (Restart epoch) = 82
letter_of (Summary epoch rights gifts accepts tightenings) = 83

-- The words behind the letter.
abbrev pub words_of : Record → List (List ℕ)
words_of (Commit txn escrows) = decimal txn.epoch ∷ decimal txn.number ∷ escrow_words escrows
words_of (Gift to field kind total) = total_words to field kind total
words_of (Accept from field kind total) = total_words from field kind total
words_of (Tighten field kind total) = cut_words field kind total
words_of (Restart epoch) = decimal epoch ∷ []
words_of (Summary epoch rights gifts accepts tightenings) = summary_words (summary_told epoch rights gifts accepts tightenings)

-- A record's line: its letter and its words, one space between them, and a line feed (10).
abbrev pub text : Record → List ℕ
text r = line ((letter_of r ∷ []) ∷ words_of r) ++ 10 ∷ []

-- Words with a space (32) before each.
abbrev pub words_spaced : List (List ℕ) → List ℕ
words_spaced ws = flat_map (λ w. 32 ∷ w) ws

-- ---- ranges

-- The greatest number of a site or of a field that a record can name.
abbrev pub max_place : ℕ
max_place = 65535

-- A change is other than 0, and not too large without its sign.
abbrev pub IsChange : ℤ → Type 0
IsChange change = (0 < unsigned_abs change) × (unsigned_abs change ≤ max_change)

-- An escrow of a record: a field that can be named, and a change.
abbrev pub IsEscrow : Escrow → Type 0
IsEscrow e = (e.field.0 ≤ max_place) × IsChange e.change

-- A total is above 0 and not too large.
abbrev pub IsTotal : ℕ → Type 0
IsTotal total = (0 < total) × (total ≤ max_total)

-- A total that was given up is above 0, and no more than a field is wide.
abbrev pub IsCut : ℕ → Type 0
IsCut total = (0 < total) × (total ≤ max_change)

-- Own rights on a field, which together are no more than a field is wide.
abbrev pub AreRights : ℕ × ℕ → Type 0
AreRights rights = rights.0 + rights.1 ≤ max_change

-- A total of a summary: a site and a field that can be named, and a total.
abbrev pub IsListed : Total → Type 0
IsListed t = (t.site.0 ≤ max_place) × (t.field.0 ≤ max_place) × IsTotal t.total

-- The same of a total that was given up.
abbrev pub IsListedCut : Cut → Type 0
IsListedCut t = (t.field.0 ≤ max_place) × IsCut t.total

-- A summary: an epoch, the rights of so many fields as a schema may have, and totals that rise strictly.
pub record IsSummary (v : SummaryValue) : Type 0 where
  pub epoch : v.epoch ≤ max_epoch
  pub some : 0 < length v.rights
  pub few : length v.rights ≤ max_fields
  pub rights : AllByRecursion AreRights v.rights
  pub gifts : AllByRecursion IsListed v.gifts
  pub gifts_rise : rises v.gifts ≡ true
  pub accepts : AllByRecursion IsListed v.accepts
  pub accepts_rise : rises v.accepts ≡ true
  pub tightenings : AllByRecursion IsListedCut v.tightenings
  pub tightenings_rise : cuts_rise v.tightenings ≡ true

-- The numbers of a record lie in the ranges of its text.
abbrev pub IsRecord : Record → Type 0
IsRecord (Commit txn escrows) = (txn.epoch ≤ max_epoch) × (0 < txn.number) × (txn.number ≤ max_number)
    × (0 < length escrows) × (length escrows ≤ max_escrows) × AllByRecursion IsEscrow escrows
IsRecord (Gift to field kind total) = (to.0 ≤ max_place) × (field.0 ≤ max_place) × IsTotal total
IsRecord (Accept from field kind total) = (from.0 ≤ max_place) × (field.0 ≤ max_place) × IsTotal total
IsRecord (Tighten field kind total) = (field.0 ≤ max_place) × IsCut total
IsRecord (Restart epoch) = (0 < epoch) × (epoch ≤ max_epoch)
IsRecord (Summary epoch rights gifts accepts tightenings) = IsSummary (summary_told epoch rights gifts accepts tightenings)
