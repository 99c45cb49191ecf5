-- A slice of entries, seen as fronts with the newest first.
use Rattle.std.proofs.Common.{◌≡◌, ℕ, ◌+◌, ◌<◌, true, List, [], ◌∷◌, ◌++◌, reverse, take, drop, length, get_or, ap, sym, ◌∙◌, arith}
use Rattle.std.proofs.lemmas.Bool.{or_right, or_left}
use Rattle.std.proofs.lemmas.List.{reverse-append, take_more, take-append-drop}
use Rattle.field_bounds.specs.declared.entry.Entry.{Entry}
use Rattle.field_bounds.specs.declared.entry.Statement.{Statement}
use Rattle.field_bounds.specs.declared.effect.Effect.{Effect}
use Rattle.field_bounds.specs.Statements.{statement_of}
use Rattle.central_rules.specs.Verdict.{is_issued, is_told_by}

module _ {A : Type 0} (xs : List A) (i : ℕ) (d : A) (h : i < length xs) where
  -- the front with the next item
  pub front_more : reverse (take (i + 1) xs) ≡ get_or xs i d ∷ reverse (take i xs)
  front_more = ap (λ (x : List A). reverse x) (take_more xs i d h) ∙ reverse-append (take i xs) (get_or xs i d ∷ [])

-- the whole over a front
pub whole : {A : Type 0} (xs : List A) (i : ℕ) → reverse xs ≡ reverse (drop i xs) ++ reverse (take i xs)
whole xs i = ap reverse (sym (take-append-drop i xs)) ∙ reverse-append (take i xs) (drop i xs)

pub issued_stays : (statement : Statement) (later t : List Entry) → is_issued statement t ≡ true → is_issued statement (later ++ t) ≡ true
issued_stays statement [] t h = h
issued_stays statement (e ∷ later) t h = or_right (is_told_by statement (statement_of e)) (is_issued statement (later ++ t))
    (issued_stays statement later t h)

-- an entry that issues the statement issues it in the whole
pub issued_found : (statement : Statement) (entries : List Entry) (i : ℕ) (d : Entry) → i < length entries
    → is_told_by statement (statement_of (get_or entries i d)) ≡ true → is_issued statement (reverse entries) ≡ true
issued_found statement entries i d h told =
    ap (λ (x : List Entry). is_issued statement x) (whole entries (i + 1))
    ∙ issued_stays statement (reverse (drop (i + 1) entries)) (reverse (take (i + 1) entries))
    (rw (front_more entries i d h) (or_left (is_told_by statement (statement_of (get_or entries i d)))
    (is_issued statement (reverse (take i entries))) told))

-- one more turn of a loop that sums a measure over the effects
pub sum_more : (F : List Effect → ℕ) (xs : List Effect) (i : ℕ) (d : Effect) → i < length xs → (n added sum : ℕ)
    → F (get_or xs i d ∷ reverse (take i xs)) ≡ n + F (reverse (take i xs)) → added ≡ n → sum ≡ F (reverse (take i xs))
    → sum + added ≡ F (reverse (take (i + 1) xs))
sum_more F xs i d h n added sum step same before = let next = ap F (front_more xs i d h) in omega (arith, step, same, before, next)
