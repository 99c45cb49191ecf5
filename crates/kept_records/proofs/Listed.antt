-- A total with no word behind it is the next total of a group, where no word is left.
use Rattle.std.proofs.Common.{◌≡◌, ℕ, ◌⊎◌, List, [], ◌∷◌, Option, Some, None, refl, inl, inr, ◌∙◌}
use Rattle.line_words.specs.Reading.{◌>>=◌, word_at, only_value}
use Rattle.field_bounds.specs.Owed.{max_change, max_total}
use Rattle.kept_records.specs.declared.total.Total.{Total}
use Rattle.kept_records.specs.declared.total.Cut.{Cut}
use Rattle.kept_records.specs.Text.{max_place}
use Rattle.kept_records.specs.Reading.{number_within, kind_of, total_from, cut_from, listed_at, cut_at}

abbrev Words : Type 0
Words = List (List ℕ)

either : {A : Type 0} (o : Option A) → (o ≡ None) ⊎ ((x : A) × (o ≡ Some x))
either None = inl refl
either (Some x) = inr (x, refl)

total_is : (ws : Words) → total_from ws ≡ (listed_at ws >>= λ t. only_value t)
unfolding total_from listed_at word_at
total_is [] = refl
total_is (w ∷ []) = elim (either (number_within 0 max_place w)) [
  | inl a ↦ rw a refl
  | inr a ↦ rw a.1 refl
]
total_is (w ∷ v ∷ []) = elim (either (number_within 0 max_place w)) [
  | inl a ↦ rw a refl
  | inr a ↦ elim (either (number_within 0 max_place v)) [
    | inl b ↦ rw (a.1, b) refl
    | inr b ↦ rw (a.1, b.1) refl
  ]
]
total_is (w ∷ v ∷ x ∷ []) = elim (either (number_within 0 max_place w)) [
  | inl a ↦ rw a refl
  | inr a ↦ elim (either (number_within 0 max_place v)) [
    | inl b ↦ rw (a.1, b) refl
    | inr b ↦ elim (either (kind_of x)) [
      | inl k ↦ rw (a.1, b.1, k) refl
      | inr k ↦ rw (a.1, b.1, k.1) refl
    ]
  ]
]
total_is (w ∷ v ∷ x ∷ y ∷ ws) = elim (either (number_within 0 max_place w)) [
  | inl a ↦ rw a refl
  | inr a ↦ elim (either (number_within 0 max_place v)) [
    | inl b ↦ rw (a.1, b) refl
    | inr b ↦ elim (either (kind_of x)) [
      | inl k ↦ rw (a.1, b.1, k) refl
      | inr k ↦ elim (either (number_within 1 max_total y)) [
        | inl n ↦ rw (a.1, b.1, k.1, n) refl
        | inr n ↦ rw (a.1, b.1, k.1, n.1) refl
      ]
    ]
  ]
]

cut_is : (ws : Words) → cut_from ws ≡ (cut_at ws >>= λ t. only_value t)
unfolding cut_from cut_at word_at
cut_is [] = refl
cut_is (w ∷ []) = elim (either (number_within 0 max_place w)) [
  | inl a ↦ rw a refl
  | inr a ↦ rw a.1 refl
]
cut_is (w ∷ v ∷ []) = elim (either (number_within 0 max_place w)) [
  | inl a ↦ rw a refl
  | inr a ↦ elim (either (kind_of v)) [
    | inl k ↦ rw (a.1, k) refl
    | inr k ↦ rw (a.1, k.1) refl
  ]
]
cut_is (w ∷ v ∷ x ∷ ws) = elim (either (number_within 0 max_place w)) [
  | inl a ↦ rw a refl
  | inr a ↦ elim (either (kind_of v)) [
    | inl k ↦ rw (a.1, k) refl
    | inr k ↦ elim (either (number_within 1 max_change x)) [
      | inl n ↦ rw (a.1, k.1, n) refl
      | inr n ↦ rw (a.1, k.1, n.1) refl
    ]
  ]
]

-- what is read of one value is what is read of the words that end behind it
ended : {A : Type 0} (o : Option (A × Words)) (x : A) (left : Words) → o ≡ Some (x, left) → left ≡ [] → (o >>= λ t. only_value t) ≡ Some x
ended o x left found none = rw (found, none) refl

more : {A : Type 0} (o : Option (A × Words)) (x : A) (left : Words) (w : List ℕ) (rest : Words) → o ≡ Some (x, left) → left ≡ w ∷ rest
    → (o >>= λ t. only_value t) ≡ None
more o x left w rest found some = rw (found, some) refl

pub total_none : (ws : Words) → listed_at ws ≡ None → total_from ws ≡ None
total_none ws none = total_is ws ∙ rw none refl

pub total_ended : (ws left : Words) (t : Total) → listed_at ws ≡ Some (t, left) → left ≡ [] → total_from ws ≡ Some t
total_ended ws left t found none = total_is ws ∙ ended (listed_at ws) t left found none

pub total_more : (ws left : Words) (t : Total) (w : List ℕ) (rest : Words) → listed_at ws ≡ Some (t, left) → left ≡ w ∷ rest
    → total_from ws ≡ None
total_more ws left t w rest found some = total_is ws ∙ more (listed_at ws) t left w rest found some

pub cut_none : (ws : Words) → cut_at ws ≡ None → cut_from ws ≡ None
cut_none ws none = cut_is ws ∙ rw none refl

pub cut_ended : (ws left : Words) (t : Cut) → cut_at ws ≡ Some (t, left) → left ≡ [] → cut_from ws ≡ Some t
cut_ended ws left t found none = cut_is ws ∙ ended (cut_at ws) t left found none

pub cut_more : (ws left : Words) (t : Cut) (w : List ℕ) (rest : Words) → cut_at ws ≡ Some (t, left) → left ≡ w ∷ rest
    → cut_from ws ≡ None
cut_more ws left t w rest found some = cut_is ws ∙ more (cut_at ws) t left w rest found some

pub ruleset total_laws = (total_none, total_ended, total_more)

pub ruleset cut_laws = (cut_none, cut_ended, cut_more)
