-- What one record more adds to what records stand for, and that it leaves lawful records lawful.
use Rattle.std.proofs.Common.{◌≡◌, ℕ, ◌+◌, true, List, [], ◌∷◌, ◌++◌, append_assoc, refl, sym, subst}
use Rattle.std.proofs.lemmas.List.{append-nil}
use Rattle.std.proofs.lemmas.List.Sums.{fold_push, sum_by_push}
use Rattle.field_bounds.specs.declared.kind.Kind.{Kind}
use Rattle.field_bounds.specs.Schema.{SchemaValue}
use Rattle.kept_records.specs.declared.record.Record.{Record}
use Rattle.kept_records.specs.Stands.{later, greatest, given_more, given_in, accepted_more, accepted_in, cut_more, cut_in, commits, committed_in, may_follow, LawfulBehind, Lawful}

-- ---- no records

pub greatest_none : greatest [] ≡ 0
unfolding greatest
greatest_none = refl

pub given_none : (to f : ℕ) (k : Kind) → given_in [] to f k ≡ 0
unfolding given_in
given_none to f k = refl

pub accepted_none : (from f : ℕ) (k : Kind) → accepted_in [] from f k ≡ 0
unfolding accepted_in
accepted_none from f k = refl

pub cut_none : (f : ℕ) (k : Kind) → cut_in [] f k ≡ 0
unfolding cut_in
cut_none f k = refl

pub committed_none : (f : ℕ) (k : Kind) → committed_in f k [] ≡ 0
unfolding committed_in
committed_none f k = refl

-- ---- one record more

pub greatest_push : (rs : List Record) (r : Record) → greatest (rs ++ r ∷ []) ≡ later (greatest rs) r
unfolding greatest
greatest_push rs r = fold_push later 0 rs r

pub given_push : (to f : ℕ) (k : Kind) (rs : List Record) (r : Record)
    → given_in (rs ++ r ∷ []) to f k ≡ given_more to f k (given_in rs to f k) r
unfolding given_in
given_push to f k rs r = fold_push (given_more to f k) 0 rs r

pub accepted_push : (from f : ℕ) (k : Kind) (rs : List Record) (r : Record)
    → accepted_in (rs ++ r ∷ []) from f k ≡ accepted_more from f k (accepted_in rs from f k) r
unfolding accepted_in
accepted_push from f k rs r = fold_push (accepted_more from f k) 0 rs r

pub cut_push : (f : ℕ) (k : Kind) (rs : List Record) (r : Record) → cut_in (rs ++ r ∷ []) f k ≡ cut_more f k (cut_in rs f k) r
unfolding cut_in
cut_push f k rs r = fold_push (cut_more f k) 0 rs r

pub committed_push : (f : ℕ) (k : Kind) (rs : List Record) (r : Record)
    → committed_in f k (rs ++ r ∷ []) ≡ committed_in f k rs + commits f k r
unfolding committed_in
committed_push f k rs r = sum_by_push (commits f k) rs r

-- one lawful record more leaves the records lawful
behind_push : (schema : SchemaValue) (s : ℕ) (front rs : List Record) (r : Record) → LawfulBehind schema s front rs
    → may_follow schema s (front ++ rs) r ≡ true → LawfulBehind schema s front (rs ++ r ∷ [])
behind_push schema s front [] r lawful may = (subst (λ (all : List Record). may_follow schema s all r ≡ true) (append-nil front) may, tt)
behind_push schema s front (x ∷ rs) r lawful may = (
  lawful.0,
  behind_push schema s (front ++ x ∷ []) rs r lawful.1
      (subst (λ (all : List Record). may_follow schema s all r ≡ true) (sym (append_assoc front (x ∷ []) rs)) may),
)

pub lawful_push : (schema : SchemaValue) (s : ℕ) (rs : List Record) (r : Record) → Lawful schema s rs → may_follow schema s rs r ≡ true
    → Lawful schema s (rs ++ r ∷ [])
lawful_push schema s rs r lawful may = behind_push schema s [] rs r lawful may

-- ---- one record of lawful ones

behind_split : (schema : SchemaValue) (s : ℕ) (front as1 : List Record) (r : Record) (bs : List Record)
    → LawfulBehind schema s front (as1 ++ r ∷ bs) → LawfulBehind schema s front as1 × (may_follow schema s (front ++ as1) r ≡ true)
behind_split schema s front [] r bs lawful = (
  tt,
  subst (λ (all : List Record). may_follow schema s all r ≡ true)
      (sym (append-nil front)) lawful.0,
)
behind_split schema s front (x ∷ as1) r bs lawful =
    let rest = behind_split schema s (front ++ x ∷ []) as1 r bs lawful.1 in
    ((lawful.0, rest.0), subst (λ (all : List Record). may_follow schema s all r ≡ true) (append_assoc front (x ∷ []) as1) rest.1)

-- those before it are lawful, and it may stand behind them
pub lawful_at : (schema : SchemaValue) (s : ℕ) (as1 : List Record) (r : Record) (bs : List Record) → Lawful schema s (as1 ++ r ∷ bs)
    → Lawful schema s as1 × (may_follow schema s as1 r ≡ true)
lawful_at schema s as1 r bs lawful = behind_split schema s [] as1 r bs lawful
