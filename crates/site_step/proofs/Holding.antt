-- What a record adds to a log, with the summary that is due behind it, and what that leaves where it is torn.
use Rattle.std.proofs.Common.{◌≡◌, ℕ, ◌+◌, ◌<◌, ◌≤◌, Bool, true, false, cond, List, [], ◌∷◌, ◌++◌, length, take, refl, sym, ap, subst, ◌∙◌, inl, inr, arith, append_assoc}
use Rattle.std.specs.Prelude.{not, nat_le, if◌then◌else◌}
use Rattle.std.specs.List.{flat_map, AllByRecursion}
use Rattle.std.proofs.lemmas.Bool.{cases_lt, lt-leb, le-leb}
use Rattle.std.proofs.lemmas.List.{append-nil}
use Rattle.std.proofs.lemmas.List.Concat.{flat_map-append}
use Rattle.std.proofs.lemmas.List.Elements.{filter-append}
use Rattle.field_bounds.specs.Schema.{SchemaValue}
use Rattle.field_bounds.specs.Limits.{IsSchema}
use Rattle.kept_records.specs.declared.record.Record.{Record}
use Rattle.kept_records.specs.declared.record.Record.TheVariants.{Commit, Gift, Accept, Tighten, Restart, Summary}
use Rattle.kept_records.specs.Summary.{SummaryValue, summary_record}
use Rattle.kept_records.specs.Text.{text, IsRecord}
use Rattle.kept_records.specs.Logs.{IsLog}
use Rattle.kept_records.specs.Stands.{greatest, is_summary, plain, since_summary, max_behind, piece, summary_of, may_follow, LawfulBehind, Lawful}
use Rattle.kept_records.specs.Summaries.{SameSums, LeavesPrefix}
use Rattle.kept_records.proofs.Lines.{same_log, all_push}
use Rattle.kept_records.proofs.Pushes.{lawful_push}
use Rattle.kept_records.proofs.Pieces.{leaves_front}
use Rattle.kept_records.proofs.Summaries.{same_sums, same_summary_push, plain_same, piece_lawful, since_push, since_one}
use Rattle.log_replay.proofs.Rising.{summary_fits}
use Rattle.site_step.specs.Site.{Holds}
use Rattle.site_step.specs.Resuming.{Leaves}

-- ---- without summaries

pub plain_append : (as1 bs : List Record) → plain (as1 ++ bs) ≡ plain as1 ++ plain bs
plain_append as1 bs = filter-append (λ (r : Record). not (is_summary r)) as1 bs

pub plain_cons : (r : Record) (rs : List Record) → is_summary r ≡ false → plain (r ∷ rs) ≡ r ∷ plain rs
plain_cons r rs h = rw h refl

pub plain_push : (rs : List Record) (r : Record) → is_summary r ≡ false → plain (rs ++ r ∷ []) ≡ plain rs ++ r ∷ []
plain_push rs r h = plain_append rs (r ∷ []) ∙ ap (λ (x : List Record). plain rs ++ x) (plain_cons r [] h)

pub plain_fewer : (rs : List Record) → length (plain rs) ≤ length rs
plain_fewer [] = omega arith
plain_fewer (Summary epoch rights gifts accepts tightenings ∷ rs) = omega (arith, plain_fewer rs)
plain_fewer (Commit txn es ∷ rs) = omega (arith, plain_fewer rs)
plain_fewer (Gift to f k t ∷ rs) = omega (arith, plain_fewer rs)
plain_fewer (Accept from f k t ∷ rs) = omega (arith, plain_fewer rs)
plain_fewer (Tighten f k t ∷ rs) = omega (arith, plain_fewer rs)
plain_fewer (Restart epoch ∷ rs) = omega (arith, plain_fewer rs)

pub greatest_plain : (rs : List Record) → greatest (plain rs) ≡ greatest rs
greatest_plain rs = (plain_same rs).epoch

-- ---- a log told without its summaries

pub holds_all : (schema : SchemaValue) (s : ℕ) (bytes : List ℕ) (all : List Record) (rest : List ℕ) → IsLog bytes all rest
    → Lawful schema s all → Holds schema s bytes (plain all) rest
holds_all schema s bytes all rest log lawful = record { all = all; log = log; lawful = lawful; told = refl }

-- it is told in one way alone
pub same_told : (schema : SchemaValue) (s : ℕ) (bytes : List ℕ) (all : List Record) (rest : List ℕ) (rs : List Record) (other : List ℕ)
    → IsLog bytes all rest → Holds schema s bytes rs other
    → (plain all ≡ rs) × (rest ≡ other)
same_told schema s bytes all rest rs other log holds =
    let same = same_log bytes all holds.all rest other log holds.log in
    (ap plain same.0 ∙ holds.told, same.1)

-- ---- lists

pub all_more : (as1 bs : List Record) → AllByRecursion IsRecord as1 → AllByRecursion IsRecord bs → AllByRecursion IsRecord (as1 ++ bs)
all_more [] bs a b = b
all_more (r ∷ as1) bs a b = (a.0, all_more as1 bs a.1 b)

lawful_first : (schema : SchemaValue) (s : ℕ) (front as1 bs : List Record) → LawfulBehind schema s front (as1 ++ bs)
    → LawfulBehind schema s front as1
lawful_first schema s front [] bs h = tt
lawful_first schema s front (r ∷ as1) bs h = (h.0, lawful_first schema s (front ++ r ∷ []) as1 bs h.1)

none_first : (as1 bs : List Record) → as1 ++ bs ≡ [] → as1 ≡ []
none_first [] bs h = refl
none_first (r ∷ as1) bs h = absurd cc

-- ---- what a record adds

module _ (schema : SchemaValue) (s : ℕ) (rs : List Record) (r : Record) (one : is_summary r ≡ false) where
  abbrev told : SummaryValue
  told = summary_of schema s (rs ++ r ∷ [])

  abbrev due : Bool
  due = nat_le max_behind (since_summary rs + 1)

  -- what stands behind the record
  abbrev tail : List Record
  tail = cond due (summary_record told ∷ []) []

  tail_plain : (b : Bool) → plain (cond b (summary_record told ∷ []) []) ≡ []
  tail_plain true = refl
  tail_plain false = refl

  pub piece_plain : plain (piece schema s rs r) ≡ r ∷ []
  piece_plain = plain_cons r tail one ∙ ap (λ (x : List Record). r ∷ x) (tail_plain due)

  pub plain_piece : plain (rs ++ piece schema s rs r) ≡ plain rs ++ r ∷ []
  plain_piece = plain_append rs (piece schema s rs r) ∙ ap (λ (x : List Record). plain rs ++ x) piece_plain

  since_by : (b : Bool) → since_summary (rs ++ r ∷ cond b (summary_record told ∷ []) []) ≡ (if b then 0 else since_summary rs + 1)
  since_by false = since_push rs r ∙ rw one refl
  since_by true = ap since_summary (sym (append_assoc rs (r ∷ []) (summary_record told ∷ []))) ∙ since_push (rs ++ r ∷ []) (summary_record told)

  pub piece_since : since_summary (rs ++ piece schema s rs r)
      ≡ (if nat_le max_behind (since_summary rs + 1) then 0 else since_summary rs + 1)
  piece_since = since_by due

  same_by : (b : Bool) → SameSums (rs ++ r ∷ cond b (summary_record told ∷ []) []) (rs ++ r ∷ [])
  same_by false = same_sums (rs ++ r ∷ [])
  same_by true =
      subst (λ (x : List Record). SameSums x (rs ++ r ∷ [])) (append_assoc rs (r ∷ []) (summary_record told ∷ []))
      (same_summary_push (rs ++ r ∷ []) (rs ++ r ∷ []) told (same_sums (rs ++ r ∷ [])))

  -- the summary changes nothing of what they stand for
  pub piece_same : SameSums (rs ++ piece schema s rs r) (rs ++ r ∷ [])
  piece_same = same_by due

  module _ (lawful : Lawful schema s rs) (may : may_follow schema s rs r ≡ true) where
    pub all_lawful : Lawful schema s (rs ++ piece schema s rs r)
    all_lawful = piece_lawful schema s rs r lawful may

    module _ (limits : IsSchema schema) (site_in : s < schema.sites) (each : AllByRecursion IsRecord rs) (fits : IsRecord r) where
      fits_by : (b : Bool) → AllByRecursion IsRecord (r ∷ cond b (summary_record told ∷ []) [])
      fits_by false = (fits, tt)
      fits_by true =
          (fits, (summary_fits schema s (rs ++ r ∷ []) limits site_in (lawful_push schema s rs r lawful may) (all_push rs r each fits), tt))

      -- it may be written
      pub piece_fits : AllByRecursion IsRecord (piece schema s rs r)
      piece_fits = fits_by due

    -- ---- whole

    pub added_all : (bytes : List ℕ) → IsLog bytes rs [] → AllByRecursion IsRecord (piece schema s rs r)
        → IsLog (bytes ++ flat_map text (piece schema s rs r)) (rs ++ piece schema s rs r) []
    added_all bytes log each = record {
      parts = ap (λ (l : List ℕ). l ++ flat_map text (piece schema s rs r)) (log.parts ∙ append-nil (flat_map text rs))
          ∙ sym (flat_map-append text rs (piece schema s rs r)) ∙ sym (append-nil (flat_map text (rs ++ piece schema s rs r)));
      each = all_more rs (piece schema s rs r) log.each each;
      no_lf = refl;
    }

    -- ---- torn

    since_front : (front behind : List Record) → r ∷ tail ≡ r ∷ (front ++ behind) → since_summary (rs ++ r ∷ front) ≤ since_summary rs + 1
    since_front [] behind parts = since_one rs r
    since_front (x ∷ front) behind parts = by due parts
      where
        by : (b : Bool) → r ∷ cond b (summary_record told ∷ []) [] ≡ r ∷ ((x ∷ front) ++ behind)
            → since_summary (rs ++ r ∷ (x ∷ front)) ≤ since_summary rs + 1
        by false is = absurd cc
        by true is =
            let same : summary_record told ∷ [] ≡ x ∷ (front ++ behind) = cc in
            let none : front ≡ [] = none_first front behind (let e : [] ≡ front ++ behind = cc in sym e) in
            let is_it : x ≡ summary_record told = cc in
            let whole : rs ++ r ∷ (x ∷ front) ≡ (rs ++ r ∷ []) ++ summary_record told ∷ [] =
            ap (λ (l : List Record). rs ++ r ∷ (x ∷ l)) none ∙ ap (λ (y : Record). rs ++ r ∷ (y ∷ [])) is_it
            ∙ sym (append_assoc rs (r ∷ []) (summary_record told ∷ [])) in
            omega (arith, ap since_summary whole, since_push (rs ++ r ∷ []) (summary_record told))

    -- a front of the lines
    module _ (k : ℕ) (bytes new : List ℕ) (log : IsLog bytes rs []) (each : AllByRecursion IsRecord (piece schema s rs r))
        (is : new ≡ bytes ++ take k (flat_map text (piece schema s rs r))) where
      left : LeavesPrefix bytes rs (piece schema s rs r) k (bytes ++ take k (flat_map text (piece schema s rs r)))
      left = leaves_front bytes rs (piece schema s rs r) k log each

      left_log : IsLog new (rs ++ left.front) left.rest
      left_log = subst (λ (l : List ℕ). IsLog l (rs ++ left.front) left.rest) (sym is) left.log

      front_lawful : Lawful schema s (rs ++ left.front)
      front_lawful =
          lawful_first schema s [] (rs ++ left.front) left.behind
          (subst (λ (l : List Record). Lawful schema s l) (sym (append_assoc rs left.front left.behind))
          (subst (λ (l : List Record). Lawful schema s (rs ++ l)) left.parts all_lawful))

      few : k < length (text r) → Leaves schema s rs r false new
      few less =
          let none : left.front ≡ [] = left.torn r tail refl less in
          record {
            front = [];
            rest = left.rest;
            log = subst (λ (l : List Record). IsLog new (rs ++ l) left.rest) none left_log;
            lawful = subst (λ (l : List Record). Lawful schema s (rs ++ l)) none front_lawful;
            told = refl;
            first_ = refl;
            one = omega (arith, ap since_summary (append-nil rs));
          }

      enough : length (text r) ≤ k → Leaves schema s rs r true new
      enough all =
          let got = left.whole r tail refl all in
          let parts : r ∷ tail ≡ r ∷ (got.0 ++ left.behind) = left.parts ∙ ap (λ (l : List Record). l ++ left.behind) got.1 in
          let tails : tail ≡ got.0 ++ left.behind = cc in
          let none : plain got.0 ≡ [] = none_first (plain got.0) (plain left.behind)
          (sym (plain_append got.0 left.behind) ∙ ap plain (sym tails) ∙ tail_plain due) in
          record {
            front = r ∷ got.0;
            rest = left.rest;
            log = subst (λ (l : List Record). IsLog new (rs ++ l) left.rest) got.1 left_log;
            lawful = subst (λ (l : List Record). Lawful schema s (rs ++ l)) got.1 front_lawful;
            told = plain_cons r got.0 one ∙ ap (λ (l : List Record). r ∷ l) none;
            first_ = one;
            one = since_front got.0 left.behind parts;
          }

      pub leaves_by : Leaves schema s rs r (nat_le (length (text r)) k) new
      leaves_by = elim (cases_lt k (length (text r))) [
        | inl less ↦ subst (λ (b : Bool). Leaves schema s rs r b new) (sym (lt-leb (length (text r)) k less)) (few less)
        | inr all ↦ subst (λ (b : Bool). Leaves schema s rs r b new) (sym (le-leb (length (text r)) k all)) (enough all)
      ]

-- nothing was added
pub leaves_none : (schema : SchemaValue) (s : ℕ) (rs : List Record) (r : Record) (bytes rest : List ℕ) → IsLog bytes rs rest
    → Lawful schema s rs → Leaves schema s rs r false bytes
leaves_none schema s rs r bytes rest log lawful = record {
  front = [];
  rest = rest;
  log = subst (λ (l : List Record). IsLog bytes l rest) (sym (append-nil rs)) log;
  lawful = subst (λ (l : List Record). Lawful schema s l) (sym (append-nil rs)) lawful;
  told = refl;
  first_ = refl;
  one = omega (arith, ap since_summary (append-nil rs));
}

-- ---- told without summaries

module _ (schema : SchemaValue) (s : ℕ) (rs : List Record) (r : Record) (stood : Bool) (bytes : List ℕ)
    (left : Leaves schema s rs r stood bytes) where
  pub left_plain : plain (rs ++ left.front) ≡ plain rs ++ cond stood (r ∷ []) []
  left_plain = plain_append rs left.front ∙ ap (λ (x : List Record). plain rs ++ x) left.told

  pub left_holds : Holds schema s bytes (plain rs ++ cond stood (r ∷ []) []) left.rest
  left_holds = record { all = rs ++ left.front; log = left.log; lawful = left.lawful; told = left_plain }
