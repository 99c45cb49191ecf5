-- What an order takes, place by place.
use Rattle.std.proofs.Common.{◌≡◌, ◌≢◌, ℕ, zero, suc, ◌+◌, ◌<◌, ◌≤◌, ◌⊎◌, ⊎_elim, List, [], ◌∷◌, length, take, get_or, set, refl, sym, ap, subst, ◌∙◌, arith, Option, Some, None, get_or-set_same, get_or-set_other}
use Rattle.std.proofs.lemmas.List.{length-set, length-map, get_or_past, ext_get_or}
use Rattle.std.proofs.lemmas.Option.{slice_get_within, slice_get_past, slice_get-get_or, same_Some, none-some}
use Rattle.std.proofs.lemmas.Bool.{cases_lt}
use Rattle.std.specs.List.{slice_get}
use native.Mathlib.Decide.{ℕ_discrete}
use mathlib.Core.Logic.{dite}
use Rattle.field_bounds.specs.declared.entry.Entry.{Entry}
use Rattle.trace_weave.specs.Weave.{history_at, count_placed}
use Rattle.trace_weave.specs.Turn.{upcoming}
use Rattle.trace_weave.specs.Order.{taken_from, taken_by, entry_at, IsTakenBy}
use Rattle.trace_weave.proofs.Woven.{placed_here, placed_there}
use Rattle.trace_weave.proofs.Orders.{none_taken, none_placed, takes_one}

-- the entry of a place, where so many entries of each history were taken before
entry_from : List (List Entry) → List ℕ → List ℕ → ℕ → Option Entry
entry_from hs counts order i =
    slice_get (history_at hs (get_or order i 0)) (get_or counts (get_or order i 0) 0 + count_placed (get_or order i 0) (take i order))

record IsTakenFrom (hs : List (List Entry)) (counts order : List ℕ) (t : List Entry) : Type 0 where
  each : (i : ℕ) → i < length t → slice_get t i ≡ entry_from hs counts order i
  within : length t ≤ length order
  ends : length t < length order → entry_from hs counts order (length t) ≡ None

past_none : (n : ℕ) (xs : List Entry) → length xs ≡ 0 → slice_get xs n ≡ None
past_none n xs empty = slice_get_past xs n (omega (arith, empty))

-- a place that takes an entry stands in the list
below : (hs : List (List Entry)) (counts : List ℕ) (s : ℕ) (e : Entry) → upcoming hs counts s ≡ Some e → s < length hs
below hs counts s e is =
    ⊎_elim (λ (under : s < length hs). under)
    (λ (past : length hs ≤ s).
    let none : slice_get (history_at hs s) (get_or counts s 0) ≡ None =
    subst (λ (h : List Entry). slice_get h (get_or counts s 0) ≡ None) (sym (get_or_past hs s [] past))
    (past_none (get_or counts s 0) [] refl) in
    absurd (none-some e (sym none ∙ is)))
    (cases_lt s (length hs))

-- one entry more of history s was taken, or it stands once more in front
moved : (counts : List ℕ) (s j : ℕ) (ps : List ℕ) → s < length counts
    → get_or (set counts s (get_or counts s 0 + 1)) j 0 + count_placed j ps ≡ get_or counts j 0 + count_placed j (s ∷ ps)
moved counts s j ps inside =
    dite (ℕ_discrete s j)
    (λ (here : s ≡ j).
    let more : count_placed j (s ∷ ps) ≡ count_placed j ps + 1 = placed_here j s ps here in
    let one : get_or (set counts s (get_or counts s 0 + 1)) j 0 ≡ get_or counts j 0 + 1 =
    subst (λ (k : ℕ). get_or (set counts s (get_or counts s 0 + 1)) k 0 ≡ get_or counts k 0 + 1) here
    (get_or-set_same counts s (get_or counts s 0 + 1) 0 inside) in
    omega (arith, more, one))
    (λ (other : s ≢ j).
    let same : count_placed j (s ∷ ps) ≡ count_placed j ps = placed_there j s ps other in
    let kept : get_or (set counts s (get_or counts s 0 + 1)) j 0 ≡ get_or counts j 0 =
    get_or-set_other counts s j (get_or counts s 0 + 1) 0 (λ (is : j ≡ s). other (sym is)) in
    omega (arith, same, kept))

-- the place behind the first
behind : (hs : List (List Entry)) (counts : List ℕ) (s : ℕ) (order : List ℕ) (i : ℕ) → s < length counts
    → entry_from hs (set counts s (get_or counts s 0 + 1)) order i ≡ entry_from hs counts (s ∷ order) (suc i)
unfolding entry_from
behind hs counts s order i inside =
    ap (λ (n : ℕ). slice_get (history_at hs (get_or order i 0)) n) (moved counts s (get_or order i 0) (take i order) inside)

-- the first place
first : (hs : List (List Entry)) (counts : List ℕ) (s : ℕ) (order : List ℕ)
    → entry_from hs counts (s ∷ order) zero ≡ upcoming hs counts s
unfolding entry_from
first hs counts s order =
    let e : get_or counts s 0 + 0 ≡ get_or counts s 0 = omega arith in ap (λ (n : ℕ). slice_get (history_at hs s) n) e

takes_none : (hs : List (List Entry)) (counts : List ℕ) (s : ℕ) (order : List ℕ) → upcoming hs counts s ≡ None
    → taken_from hs counts (s ∷ order) ≡ []
takes_none hs counts s order is = cc

more : (hs : List (List Entry)) (counts : List ℕ) (s : ℕ) (order : List ℕ) (e : Entry) (t : List Entry) → s < length counts
    → upcoming hs counts s ≡ Some e → IsTakenFrom hs (set counts s (get_or counts s 0 + 1)) order t
    → IsTakenFrom hs counts (s ∷ order) (e ∷ t)
more hs counts s order e t inside next rest = record {
  each = at;
  within = (let few = rest.within in omega (arith, few));
  ends = λ shorter. sym (behind hs counts s order (length t) inside) ∙ rest.ends (omega (arith, shorter));
}
  where
    at : (i : ℕ) → i < length (e ∷ t) → slice_get (e ∷ t) i ≡ entry_from hs counts (s ∷ order) i
    at zero under = sym (first hs counts s order ∙ next)
    at (suc i) under = rest.each i (omega (arith, under)) ∙ behind hs counts s order i inside

none : (hs : List (List Entry)) (counts : List ℕ) (order : List ℕ) → (0 < length order → entry_from hs counts order 0 ≡ None)
    → IsTakenFrom hs counts order []
none hs counts order ended = record { each = λ i under. absurd (omega (arith, under)); within = omega arith; ends = ended }

-- the first place, and the rest if it takes an entry
by_next : (hs : List (List Entry)) (counts : List ℕ) (s : ℕ) (order : List ℕ) → length counts ≡ length hs
    → ((e : Entry) → upcoming hs counts s ≡ Some e → IsTakenFrom hs (set counts s (get_or counts s 0 + 1)) order
    (taken_from hs (set counts s (get_or counts s 0 + 1)) order))
    → (next : Option Entry) → upcoming hs counts s ≡ next → IsTakenFrom hs counts (s ∷ order) (taken_from hs counts (s ∷ order))
by_next hs counts s order len rest None is =
    subst (λ (t : List Entry). IsTakenFrom hs counts (s ∷ order) t) (sym (takes_none hs counts s order is))
    (none hs counts (s ∷ order) (λ under. first hs counts s order ∙ is))
by_next hs counts s order len rest (Some e) is =
    let under : s < length hs = below hs counts s e is in
    subst (λ (t : List Entry). IsTakenFrom hs counts (s ∷ order) t) (sym (takes_one hs counts s order e is))
    (more hs counts s order e (taken_from hs (set counts s (get_or counts s 0 + 1)) order) (omega (arith, under, len)) is (rest e is))

taken : (hs : List (List Entry)) (counts order : List ℕ) → length counts ≡ length hs
    → IsTakenFrom hs counts order (taken_from hs counts order)
taken hs counts [] len = none hs counts [] (λ under. absurd (omega (arith, under)))
taken hs counts (s ∷ order) len =
    let same : length (set counts s (get_or counts s 0 + 1)) ≡ length counts = length-set counts s (get_or counts s 0 + 1) in
    by_next hs counts s order len (λ e is. taken hs (set counts s (get_or counts s 0 + 1)) order (same ∙ len)) (upcoming hs counts s) refl

-- of none an entry was taken before
from_none : (hs : List (List Entry)) (order : List ℕ) (i : ℕ) → entry_from hs (none_taken hs) order i ≡ entry_at hs order i
unfolding entry_from
from_none hs order i =
    let none : get_or (none_taken hs) (get_or order i 0) 0 ≡ 0 = none_placed hs (get_or order i 0) in
    let e : get_or (none_taken hs) (get_or order i 0) 0 + count_placed (get_or order i 0) (take i order)
    ≡ count_placed (get_or order i 0) (take i order) = omega (arith, none) in
    ap (λ (n : ℕ). slice_get (history_at hs (get_or order i 0)) n) e

pub taken_by_places : (hs : List (List Entry)) (order : List ℕ) → IsTakenBy hs order (taken_by hs order)
taken_by_places hs order =
    let all : IsTakenFrom hs (none_taken hs) order (taken_by hs order) =
    taken hs (none_taken hs) order (length-map hs (λ (h : List Entry). 0)) in record {
      each = λ i under. all.each i under ∙ from_none hs order i;
      within = all.within;
      ends = λ shorter. sym (from_none hs order (length (taken_by hs order))) ∙ all.ends shorter;
    }

-- ---- and there is no other such trace

not_longer : (hs : List (List Entry)) (order : List ℕ) (t u : List Entry) → IsTakenBy hs order t → IsTakenBy hs order u
    → length t < length u → ⊥
not_longer hs order t u one other shorter =
    let few = other.within in
    let ended : entry_at hs order (length t) ≡ None = one.ends (omega (arith, shorter, few)) in
    let there : slice_get u (length t) ≡ entry_at hs order (length t) = other.each (length t) shorter in
    none_here u (length t) shorter (there ∙ ended)
  where
    none_here : (xs : List Entry) (i : ℕ) → i < length xs → slice_get xs i ≡ None → ⊥
    none_here [] i under gone = absurd (omega (arith, under))
    none_here (x ∷ xs) i under gone = none-some (get_or (x ∷ xs) i x) (sym gone ∙ slice_get-get_or (x ∷ xs) i x under)

same_places : (t u : List Entry) → length t ≡ length u → ((i : ℕ) → i < length t → slice_get t i ≡ slice_get u i) → t ≡ u
same_places [] [] len at = refl
same_places [] (x ∷ u) len at = absurd (omega (arith, len))
same_places (x ∷ t) u len at =
    ext_get_or x (x ∷ t) u len (λ i under.
    same_Some (get_or (x ∷ t) i x) (get_or u i x)
    (sym (slice_get-get_or (x ∷ t) i x under) ∙ (at i under ∙ slice_get-get_or u i x (omega (arith, under, len)))))

pub one_taken_by : (hs : List (List Entry)) (order : List ℕ) (t : List Entry) → IsTakenBy hs order t → t ≡ taken_by hs order
one_taken_by hs order t one =
    let all : IsTakenBy hs order (taken_by hs order) = taken_by_places hs order in
    let short : length (taken_by hs order) ≤ length t = at_most (length t) (length (taken_by hs order)) (not_longer hs order t (taken_by hs order) one all) in
    let long : length t ≤ length (taken_by hs order) = at_most (length (taken_by hs order)) (length t) (not_longer hs order (taken_by hs order) t all one) in
    let len : length t ≡ length (taken_by hs order) = omega (arith, short, long) in
    same_places t (taken_by hs order) len (λ i under. one.each i under ∙ sym (all.each i (omega (arith, under, len))))
  where
    at_most : (a b : ℕ) → (a < b → ⊥) → b ≤ a
    at_most a b never = ⊎_elim (λ (is : a < b). absurd (never is)) (λ (is : b ≤ a). is) (cases_lt a b)
