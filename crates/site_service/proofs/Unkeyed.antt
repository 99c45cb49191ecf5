-- No record has a byte K, so that none is taken for a note.
use Rattle.std.proofs.Common.{◌≢◌, ◌≤◌, ◌<◌, ◌^◌, ℕ, suc, ℤ, pos, negsuc, List, [], ◌∷◌, ◌++◌, length, sym, subst, arith}
use Rattle.std.specs.List.{All, AllByRecursion, flat_map, join_with_byte}
use Rattle.std.specs.Fmt.{decimal, signed_decimal}
use Rattle.std.specs.Str.Parse.{AllDigits}
use Rattle.std.proofs.lemmas.Str.Parse.{digit_from_value}
use Rattle.std.proofs.lemmas.Fmt.{decimal_is_IsNumeral}
use Rattle.std.proofs.lemmas.List.Elements.{All-from_recursion}
use Rattle.field_bounds.specs.declared.kind.Kind.{Kind}
use Rattle.field_bounds.specs.declared.kind.Kind.TheVariants.{Lower, Raise}
use Rattle.field_bounds.specs.declared.id.SiteNo.{SiteNo}
use Rattle.field_bounds.specs.declared.id.FieldNo.{FieldNo}
use Rattle.field_bounds.specs.declared.entry.Escrow.{Escrow}
use Rattle.kept_records.specs.declared.record.Record.{Record}
use Rattle.kept_records.specs.declared.record.Record.TheVariants.{Commit, Gift, Accept, Tighten, Restart, Summary}
use Rattle.kept_records.specs.declared.total.Total.{Total}
use Rattle.kept_records.specs.declared.total.Cut.{Cut}
use Rattle.kept_records.specs.Summary.{SummaryValue, summary_told}
use Rattle.kept_records.specs.Logs.{IsLog}
use Rattle.kept_records.specs.Text.{text, kind_word, escrow_words, total_words, rights_words, group_words, cut_words, cuts_words, summary_words, letter_of, words_of, IsChange, IsEscrow, IsListed, IsListedCut, AreRights, IsSummary, IsRecord}

-- no byte is a K
abbrev pub NoK : List ℕ → Type 0
NoK xs = AllByRecursion (λ (b : ℕ). b ≢ 75) xs

pub no_k_append : (a b : List ℕ) → NoK a → NoK b → NoK (a ++ b)
no_k_append [] b h k = k
no_k_append (c ∷ a) b h k = (h.0, no_k_append a b h.1 k)

-- ---- words

digit_no_k : (c : ℕ) → (48 ≤ c) × (c ≤ 57) → c ≢ 75
digit_no_k c d is = omega (arith, d.1, is)

digits_no_k : (ds : List ℕ) → AllDigits 10 ds → NoK ds
digits_no_k [] h = tt
digits_no_k (c ∷ ds) h = (digit_no_k c (digit_from_value c h.0), digits_no_k ds h.1)

number_no_k : (n : ℕ) → n < 2 ^ 64 → NoK (decimal n)
number_no_k n small = digits_no_k (decimal n) (decimal_is_IsNumeral n small).0.1

signed_no_k : (z : ℤ) → IsChange z → NoK (signed_decimal z)
signed_no_k (pos n) fits = number_no_k n (omega (arith, fits.1))
signed_no_k (negsuc n) fits = ((λ e. omega (arith, e)), number_no_k (suc n) (omega (arith, fits.1)))

kind_no_k : (k : Kind) → NoK (kind_word k)
kind_no_k Lower = ((λ e. omega (arith, e)), tt)
kind_no_k Raise = ((λ e. omega (arith, e)), tt)

-- ---- lists of words

abbrev AllNoK : List (List ℕ) → Type 0
AllNoK ws = AllByRecursion NoK ws

all_no_k : (as1 bs : List (List ℕ)) → AllNoK as1 → AllNoK bs → AllNoK (as1 ++ bs)
all_no_k [] bs p q = q
all_no_k (a ∷ as1) bs p q = (p.0, all_no_k as1 bs p.1 q)

escrows_no_k : (es : List Escrow) → AllByRecursion IsEscrow es → AllNoK (escrow_words es)
escrows_no_k [] fits = tt
escrows_no_k (e ∷ es) fits =
    (number_no_k e.field.0 (omega (arith, fits.0.0)), (signed_no_k e.change fits.0.1, escrows_no_k es fits.1))

total_no_k : (site : SiteNo) (field : FieldNo) (k : Kind) (n : ℕ) → site.0 ≤ 65535 → field.0 ≤ 65535 → n ≤ 1_000_000_000_000_000_000
    → AllNoK (total_words site field k n)
total_no_k site field k n s f small =
    (number_no_k site.0 (omega arith), (number_no_k field.0 (omega arith), (kind_no_k k, (number_no_k n (omega arith), tt))))

cut_no_k : (field : FieldNo) (k : Kind) (n : ℕ) → field.0 ≤ 65535 → n ≤ 2_000_000_000_000_000 → AllNoK (cut_words field k n)
cut_no_k field k n f small = (number_no_k field.0 (omega arith), (kind_no_k k, (number_no_k n (omega arith), tt)))

rights_no_k : (rs : List (ℕ × ℕ)) → AllByRecursion AreRights rs → AllNoK (rights_words rs)
rights_no_k [] fits = tt
rights_no_k (r ∷ rs) fits =
    (number_no_k r.0 (omega (arith, fits.0)), (number_no_k r.1 (omega (arith, fits.0)), rights_no_k rs fits.1))

group_no_k : (letter : ℕ) (ts : List Total) → letter ≢ 75 → AllByRecursion IsListed ts → AllNoK (group_words letter ts)
group_no_k letter [] other fits = tt
group_no_k letter (t ∷ ts) other fits = (
  (other, tt),
  all_no_k (total_words t.site t.field t.kind t.total) (group_words letter ts)
      (total_no_k t.site t.field t.kind t.total fits.0.0 fits.0.1 fits.0.2.1) (group_no_k letter ts other fits.1),
)

cuts_no_k : (ts : List Cut) → AllByRecursion IsListedCut ts → AllNoK (cuts_words ts)
cuts_no_k [] fits = tt
cuts_no_k (t ∷ ts) fits = (
  ((λ e. omega (arith, e)), tt),
  all_no_k (cut_words t.field t.kind t.total) (cuts_words ts) (cut_no_k t.field t.kind t.total fits.0.0 fits.0.1.1) (cuts_no_k ts fits.1),
)

summary_no_k : (v : SummaryValue) → IsSummary v → AllNoK (summary_words v)
summary_no_k v fits = (
  number_no_k v.epoch (omega (arith, fits.epoch)),
  (
    number_no_k (length v.rights) (omega (arith, fits.few)),
    all_no_k (rights_words v.rights) (group_words 103 v.gifts ++ (group_words 97 v.accepts ++ cuts_words v.tightenings))
        (rights_no_k v.rights fits.rights)
        (all_no_k (group_words 103 v.gifts) (group_words 97 v.accepts ++ cuts_words v.tightenings)
        (group_no_k 103 v.gifts (λ e. omega (arith, e)) fits.gifts)
        (all_no_k (group_words 97 v.accepts) (cuts_words v.tightenings)
        (group_no_k 97 v.accepts (λ e. omega (arith, e)) fits.accepts) (cuts_no_k v.tightenings fits.tightenings))),
  ),
)

-- ---- records

words_no_k : (r : Record) → IsRecord r → AllNoK ((letter_of r ∷ []) ∷ words_of r)
words_no_k (Commit txn es) fits = (
  ((λ e. omega (arith, e)), tt),
  (
    number_no_k txn.epoch (omega (arith, fits.0)),
    (number_no_k txn.number (omega (arith, fits.2)), escrows_no_k es fits.5),
  ),
)
words_no_k (Gift to f k n) fits = (((λ e. omega (arith, e)), tt), total_no_k to f k n fits.0 fits.1 fits.2.1)
words_no_k (Accept from f k n) fits = (((λ e. omega (arith, e)), tt), total_no_k from f k n fits.0 fits.1 fits.2.1)
words_no_k (Tighten f k n) fits = (((λ e. omega (arith, e)), tt), cut_no_k f k n fits.0 fits.1.1)
words_no_k (Restart epoch) fits = (((λ e. omega (arith, e)), tt), (number_no_k epoch (omega (arith, fits.1)), tt))
words_no_k (Summary epoch rights gifts accepts tightenings) fits = (
  ((λ e. omega (arith, e)), tt),
  summary_no_k (summary_told epoch rights gifts accepts tightenings) fits,
)

line_no_k : (ws : List (List ℕ)) → AllNoK ws → NoK (join_with_byte 32 ws)
line_no_k [] h = tt
line_no_k (w ∷ []) h = h.0
line_no_k (w ∷ v ∷ ws) h =
    no_k_append w (32 ∷ join_with_byte 32 (v ∷ ws)) h.0 ((λ e. omega (arith, e)), line_no_k (v ∷ ws) h.1)

text_no_k : (r : Record) → IsRecord r → NoK (text r)
text_no_k r fits =
    no_k_append (join_with_byte 32 ((letter_of r ∷ []) ∷ words_of r)) (10 ∷ []) (line_no_k ((letter_of r ∷ []) ∷ words_of r) (words_no_k r fits))
    ((λ e. omega (arith, e)), tt)

texts_no_k : (rs : List Record) → AllByRecursion IsRecord rs → NoK (flat_map text rs)
texts_no_k [] each = tt
texts_no_k (r ∷ rs) each = no_k_append (text r) (flat_map text rs) (text_no_k r each.0) (texts_no_k rs each.1)

pub log_no_k : (bytes : List ℕ) (rs : List Record) → IsLog bytes rs [] → All (λ (b : ℕ). b ≢ 75) bytes
log_no_k bytes rs log =
    All-from_recursion (λ (b : ℕ). b ≢ 75) bytes
    (subst NoK (sym log.parts) (no_k_append (flat_map text rs) [] (texts_no_k rs log.each) tt))
