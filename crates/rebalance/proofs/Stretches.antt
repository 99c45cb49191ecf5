-- Two rows laid in order of site, and the walk along both that meets each overlap.
use Rattle.std.proofs.Common.{◌≡◌, ℕ, zero, suc, ◌+◌, ◌-◌, ◌<◌, ◌≤◌, List, [], ◌∷◌, ◌++◌, length, refl, sym, ◌∙◌, ap, arith, append_assoc, append-nil, cond, true, false, eqb, min, max, inl, inr, length-append}
use Rattle.std.specs.Prelude.{sum_by, All}
use Rattle.std.proofs.lemmas.Bool.{cases_lt, cases_order, eq-eqb, ne_eqb}
use Rattle.std.proofs.lemmas.List.Elements.{All-nil, All-cons, All-append}
use Rattle.std.proofs.lemmas.Bool.Decides.{nat_tests}
use Rattle.std.proofs.lemmas.List.Sums.{sum_by-append}
use Rattle.rebalance.specs.declared.even_plan.Move.{Move}
use Rattle.rebalance.specs.EvenPlan.{sum_before, overlap, pair_moves, moves_from, moves_before, IsGift, given_by, got_by}

-- one site more
pub sum_before-suc : (f : ℕ → ℕ) (i : ℕ) → sum_before f (suc i) ≡ sum_before f i + f i
unfolding sum_before
sum_before-suc f i = refl

-- a row's stretches come one after another
sum_before-mono : (f : ℕ → ℕ) (i d : ℕ) → sum_before f i ≤ sum_before f (i + d)
sum_before-mono f i zero = let e : i + 0 ≡ i = omega arith in rw e (omega arith)
sum_before-mono f i (suc d) =
    let e : i + suc d ≡ suc (i + d) = omega arith in
    rw e (omega (arith, sum_before-mono f i d, sum_before-suc f (i + d)))

pub sum_before-le : (f : ℕ → ℕ) (i j : ℕ) → i ≤ j → sum_before f i ≤ sum_before f j
sum_before-le f i j h =
    let e : j ≡ i + (j - i) = omega arith in
    rw e (sum_before-mono f i (j - i))

-- a row with no more than another is no longer
pub sum_before-below : (f h : ℕ → ℕ) (n : ℕ) → ((i : ℕ) → f i ≤ h i) → sum_before f n ≤ sum_before h n
unfolding sum_before
sum_before-below f h zero le = omega arith
sum_before-below f h (suc n) le = omega (arith, sum_before-below f h n le, le n)

-- the move of a pair
unfoldable pub pair_move : (f g : ℕ → ℕ) (i j : ℕ) → Move
pair_move f g i j = record { from = i; to = j; amount = overlap f g i j }

-- a pair whose stretches do not overlap has no move
pair_none : (f g : ℕ → ℕ) (i j : ℕ) → overlap f g i j ≡ 0 → pair_moves f g i j ≡ []
unfolding pair_moves
pair_none f g i j h = rw h refl

-- a pair whose stretches overlap has one
pub pair_some : (f g : ℕ → ℕ) (i j : ℕ) → 0 < overlap f g i j → pair_moves f g i j ≡ pair_move f g i j ∷ []
unfolding pair_moves pair_move
pair_some f g i j h = grind (arith, nat_tests)

-- what is added up over the moves of a pair, where an amount of 0 counts for nothing
sum_pair : (w : Move → ℕ) (f g : ℕ → ℕ) (i j : ℕ) → (overlap f g i j ≡ 0 → w (pair_move f g i j) ≡ 0)
    → sum_by w (pair_moves f g i j) ≡ w (pair_move f g i j)
sum_pair w f g i j none = elim (cases_lt 0 (overlap f g i j)) [
  | inl h ↦ rw (pair_some f g i j h) (omega arith)
  | inr h ↦ let e : overlap f g i j ≡ 0 = omega arith in rw (pair_none f g i j e) (sym (none e))
]

abbrev pub amount_of : Move → ℕ
amount_of m = m.amount

-- whether a site has anything in a row
abbrev pub some_of : (ℕ → ℕ) → ℕ → ℕ
some_of f i = min (f i) 1

-- no stretch of the other row before `j` reaches this one's beginning
row_fresh : (f g : ℕ → ℕ) (i j : ℕ) → sum_before g j ≤ sum_before f i → moves_from f g i j ≡ []
unfolding moves_from overlap
row_fresh f g i zero h = refl
row_fresh f g i (suc j) h =
    let before : sum_before g j ≤ sum_before f i = omega (arith, sum_before-suc g j) in
    let none : overlap f g i j ≡ 0 = omega arith in
    rw (row_fresh f g i j before, pair_none f g i j none) refl

-- no stretch of the other row from `j` on begins before this one's end
row_done : (f g : ℕ → ℕ) (i j d : ℕ) → sum_before f (suc i) ≤ sum_before g j → moves_from f g i (j + d) ≡ moves_from f g i j
unfolding moves_from overlap
row_done f g i j zero h = let e : j + 0 ≡ j = omega arith in rw e refl
row_done f g i j (suc d) h =
    let e : j + suc d ≡ suc (j + d) = omega arith in
    let none : overlap f g i (j + d) ≡ 0 = omega (arith, sum_before-mono g j d) in
    rw (e, row_done f g i j d h, pair_none f g i (j + d) none) (append-nil (moves_from f g i j))

-- how far two fingers have come that stand at the sites `i` and `j`, with the moves made so far
pub record Progress (f g : ℕ → ℕ) (n i j : ℕ) (ms : List Move) : Type 0 where
  pub so_far : ms ≡ moves_before f g n i ++ moves_from f g i j
  pub f_meets : sum_before f i ≤ sum_before g (suc j)
  pub g_meets : sum_before g j ≤ sum_before f (suc i)
  pub given : (k : ℕ) → sum_by (given_by k) ms ≡ min (sum_before f (suc k)) (max (sum_before f i) (sum_before g j)) - sum_before f k
  pub got : (k : ℕ) → sum_by (got_by k) ms ≡ min (sum_before g (suc k)) (max (sum_before f i) (sum_before g j)) - sum_before g k
  pub moved : sum_by amount_of ms ≡ max (sum_before f i) (sum_before g j)
  pub few : length ms ≤ sum_before (some_of f) i + sum_before (some_of g) j
  pub gifts : All (IsGift n) ms
  pub to_left : i < n → j < n
  pub to_in : j ≤ n
  pub goes_on : 0 < sum_before f n → sum_before g j < sum_before g n

-- what the pair adds to what a site gave
given_pair : (f g : ℕ → ℕ) (i j k : ℕ) → sum_by (given_by k) (pair_moves f g i j) ≡ cond (eqb i k) (overlap f g i j) 0
unfolding given_by pair_move
given_pair f g i j k = sum_pair (given_by k) f g i j (λ none. grind (arith, nat_tests))

got_pair : (f g : ℕ → ℕ) (i j k : ℕ) → sum_by (got_by k) (pair_moves f g i j) ≡ cond (eqb j k) (overlap f g i j) 0
unfolding got_by pair_move
got_pair f g i j k = sum_pair (got_by k) f g i j (λ none. grind (arith, nat_tests))

moved_pair : (f g : ℕ → ℕ) (i j : ℕ) → sum_by amount_of (pair_moves f g i j) ≡ overlap f g i j
unfolding pair_move
moved_pair f g i j = sum_pair amount_of f g i j (λ none. none)

few_pair : (f g : ℕ → ℕ) (i j : ℕ) → length (pair_moves f g i j) ≤ min (overlap f g i j) 1
few_pair f g i j = elim (cases_lt 0 (overlap f g i j)) [
  | inl h ↦ rw (pair_some f g i j h) (omega arith)
  | inr h ↦ let e : overlap f g i j ≡ 0 = omega arith in rw (pair_none f g i j e) (omega arith)
]

-- the move of two stretches that overlap is between two sites
gift : (f g : ℕ → ℕ) (n i j : ℕ) → ((k : ℕ) → min (f k) (g k) ≡ 0) → i < n → j < n → 0 < overlap f g i j → IsGift n (pair_move f g i j)
unfolding pair_move overlap
gift f g n i j apart p q h = record {
  from_there = p;
  to_there = q;
  apart = λ (e : i ≡ j). omega (arith, apart i, sum_before-suc f i, sum_before-suc g j, ap g e);
  some = h;
}

gift_pair : (f g : ℕ → ℕ) (n i j : ℕ) → ((k : ℕ) → min (f k) (g k) ≡ 0) → i < n → j < n → All (IsGift n) (pair_moves f g i j)
gift_pair f g n i j apart p q = elim (cases_lt 0 (overlap f g i j)) [
  | inl h ↦ rw (pair_some f g i j h) (All-cons (IsGift n) (pair_move f g i j) [] (gift f g n i j apart p q h) (All-nil (IsGift n)))
  | inr h ↦ let e : overlap f g i j ≡ 0 = omega arith in rw (pair_none f g i j e) (All-nil (IsGift n))
]

-- the part of a stretch before a place of the row, as the place moves on within the stretch of `i`
part_more : (f : ℕ → ℕ) (i k p q : ℕ) → sum_before f i ≤ p → p ≤ q → q ≤ sum_before f (suc i)
    → (min (sum_before f (suc k)) p - sum_before f k) + cond (eqb i k) (q - p) 0 ≡ min (sum_before f (suc k)) q - sum_before f k
part_more f i k p q l m r = elim (cases_order i k) [
  | inl h ↦
      let e : eqb i k ≡ true = eq-eqb i k h in
      let e1 : sum_before f i ≡ sum_before f k = ap (sum_before f) h in
      let e2 : sum_before f (suc i) ≡ sum_before f (suc k) = ap (λ x. sum_before f (suc x)) h in
      rw e (omega arith)
  | inr (inl h) ↦
      let e : eqb i k ≡ false = ne_eqb i k (λ (x : i ≡ k). omega arith) in
      let after : sum_before f (suc i) ≤ sum_before f k = sum_before-le f (suc i) k (omega arith) in
      rw e (omega arith)
  | inr (inr h) ↦
      let e : eqb i k ≡ false = ne_eqb i k (λ (x : i ≡ k). omega arith) in
      let before : sum_before f (suc k) ≤ sum_before f i = sum_before-le f (suc k) i (omega arith) in
      rw e (omega arith)
]

-- what the pair at the fingers adds, where the fingers come to the place `q`
given_more : (f g : ℕ → ℕ) (n i j q : ℕ) (ms : List Move) → Progress f g n i j ms → max (sum_before f i) (sum_before g j) ≤ q
    → q ≡ min (sum_before f (suc i)) (sum_before g (suc j))
    → (k : ℕ) → sum_by (given_by k) (ms ++ pair_moves f g i j) ≡ min (sum_before f (suc k)) q - sum_before f k
unfolding overlap
given_more f g n i j q ms so within end k =
    rw (sum_by-append (given_by k) ms (pair_moves f g i j), given_pair f g i j k, so.given k, ← end)
    (part_more f i k (max (sum_before f i) (sum_before g j)) q (omega arith) within (omega arith))

got_more : (f g : ℕ → ℕ) (n i j q : ℕ) (ms : List Move) → Progress f g n i j ms → max (sum_before f i) (sum_before g j) ≤ q
    → q ≡ min (sum_before f (suc i)) (sum_before g (suc j))
    → (k : ℕ) → sum_by (got_by k) (ms ++ pair_moves f g i j) ≡ min (sum_before g (suc k)) q - sum_before g k
unfolding overlap
got_more f g n i j q ms so within end k =
    rw (sum_by-append (got_by k) ms (pair_moves f g i j), got_pair f g i j k, so.got k, ← end)
    (part_more g j k (max (sum_before f i) (sum_before g j)) q (omega arith) within (omega arith))

moved_more : (f g : ℕ → ℕ) (n i j q : ℕ) (ms : List Move) → Progress f g n i j ms → max (sum_before f i) (sum_before g j) ≤ q
    → q ≡ min (sum_before f (suc i)) (sum_before g (suc j)) → sum_by amount_of (ms ++ pair_moves f g i j) ≡ q
unfolding overlap
moved_more f g n i j q ms so within end =
    rw (sum_by-append amount_of ms (pair_moves f g i j), moved_pair f g i j, so.moved) (omega arith)

-- the first finger goes on to the next site
pub step_from : (f g : ℕ → ℕ) (n i j : ℕ) (ms : List Move) → Progress f g n i j ms → ((k : ℕ) → min (f k) (g k) ≡ 0) → i < n
    → sum_before f (suc i) ≤ sum_before g (suc j) → Progress f g n (suc i) j (ms ++ pair_moves f g i j)
unfolding moves_before moves_from overlap
step_from f g n i j ms so apart p le =
    let r : j < n = so.to_left p in
    let more : sum_before f i ≤ sum_before f (suc i) = sum_before-le f i (suc i) (omega arith) in
    let more_next : sum_before f (suc i) ≤ sum_before f (suc (suc i)) = sum_before-le f (suc i) (suc (suc i)) (omega arith) in
    let there : sum_before f (suc i) ≡ max (sum_before f (suc i)) (sum_before g j) = omega (arith, so.g_meets) in
    let within : max (sum_before f i) (sum_before g j) ≤ sum_before f (suc i) = omega (arith, so.g_meets) in
    let end : sum_before f (suc i) ≡ min (sum_before f (suc i)) (sum_before g (suc j)) = omega arith in
    let split : n ≡ suc j + (n - suc j) = omega arith in
    let row : moves_from f g i n ≡ moves_from f g i (suc j) = ap (moves_from f g i) split ∙ row_done f g i (suc j) (n - suc j) le in
    record {
      so_far = rw (so.so_far, row, row_fresh f g (suc i) j so.g_meets)
          (append_assoc (moves_before f g n i) (moves_from f g i j) (pair_moves f g i j) ∙ sym (append-nil _));
      f_meets = le;
      g_meets = omega (arith, so.g_meets);
      given = λ k. rw (← there) (given_more f g n i j (sum_before f (suc i)) ms so within end k);
      got = λ k. rw (← there) (got_more f g n i j (sum_before f (suc i)) ms so within end k);
      moved = rw (← there) (moved_more f g n i j (sum_before f (suc i)) ms so within end);
      few = omega (
        arith,
        so.few,
        length-append ms (pair_moves f g i j),
        few_pair f g i j,
        sum_before-suc f i,
        sum_before-suc (some_of f) i,
      );
      gifts = All-append (IsGift n) ms (pair_moves f g i j) so.gifts (gift_pair f g n i j apart p r);
      to_left = λ (q : suc i < n). r;
      to_in = so.to_in;
      goes_on = so.goes_on;
    }

-- the second finger goes on to the next site
pub step_to : (f g : ℕ → ℕ) (n i j : ℕ) (ms : List Move) → Progress f g n i j ms → ((k : ℕ) → min (f k) (g k) ≡ 0)
    → sum_before f n ≡ sum_before g n → i < n
    → sum_before g (suc j) < sum_before f (suc i) → Progress f g n i (suc j) (ms ++ pair_moves f g i j)
unfolding moves_from overlap
step_to f g n i j ms so apart same p lt =
    let r : j < n = so.to_left p in
    let more : sum_before g j ≤ sum_before g (suc j) = sum_before-le g j (suc j) (omega arith) in
    let more_next : sum_before g (suc j) ≤ sum_before g (suc (suc j)) = sum_before-le g (suc j) (suc (suc j)) (omega arith) in
    let whole : sum_before f (suc i) ≤ sum_before f n = sum_before-le f (suc i) n (omega arith) in
    let there : sum_before g (suc j) ≡ max (sum_before f i) (sum_before g (suc j)) = omega (arith, so.f_meets) in
    let within : max (sum_before f i) (sum_before g j) ≤ sum_before g (suc j) = omega (arith, so.f_meets) in
    let end : sum_before g (suc j) ≡ min (sum_before f (suc i)) (sum_before g (suc j)) = omega arith in
    let left : suc j < n = elim (cases_lt (suc j) n) [
      | inl h ↦ h
      | inr h ↦ let over : sum_before g n ≤ sum_before g (suc j) = sum_before-le g n (suc j) h in absurd (omega arith)
    ] in
    record {
      so_far = rw so.so_far (append_assoc (moves_before f g n i) (moves_from f g i j) (pair_moves f g i j));
      f_meets = omega (arith, so.f_meets);
      g_meets = omega arith;
      given = λ k. rw (← there) (given_more f g n i j (sum_before g (suc j)) ms so within end k);
      got = λ k. rw (← there) (got_more f g n i j (sum_before g (suc j)) ms so within end k);
      moved = rw (← there) (moved_more f g n i j (sum_before g (suc j)) ms so within end);
      few = omega (
        arith,
        so.few,
        length-append ms (pair_moves f g i j),
        few_pair f g i j,
        sum_before-suc g j,
        sum_before-suc (some_of g) j,
      );
      gifts = All-append (IsGift n) ms (pair_moves f g i j) so.gifts (gift_pair f g n i j apart p r);
      to_left = λ (q : i < n). left;
      to_in = omega arith;
      goes_on = λ (q : 0 < sum_before f n). omega arith;
    }

-- both fingers before the first site
pub start : (f g : ℕ → ℕ) (n : ℕ) → sum_before f n ≡ sum_before g n → Progress f g n 0 0 []
unfolding moves_before moves_from sum_before
start f g n same = record {
  so_far = refl;
  f_meets = omega arith;
  g_meets = omega arith;
  given = λ k. omega arith;
  got = λ k. omega arith;
  moved = refl;
  few = omega arith;
  gifts = All-nil (IsGift n);
  to_left = λ (q : 0 < n). q;
  to_in = omega arith;
  goes_on = λ (q : 0 < sum_before f n). omega arith;
}

-- two rows in which no site stands in both have stretches of at most `n` sites
apart_le : (f g : ℕ → ℕ) (n : ℕ) → ((k : ℕ) → min (f k) (g k) ≡ 0) → sum_before (some_of f) n + sum_before (some_of g) n ≤ n
unfolding sum_before
apart_le f g zero apart = omega arith
apart_le f g (suc n) apart = omega (arith, apart_le f g n apart, apart n)

-- where a row goes on, some site still has a stretch in it
some_more : (g : ℕ → ℕ) (j d : ℕ) → sum_before g j < sum_before g (j + d) → sum_before (some_of g) j < sum_before (some_of g) (j + d)
some_more g j zero h = let e : j + 0 ≡ j = omega arith in absurd (omega (arith, ap (sum_before g) e))
some_more g j (suc d) h =
    let e : j + suc d ≡ suc (j + d) = omega arith in
    let longer : sum_before g j < sum_before g (j + d) + g (j + d) = omega (arith, ap (sum_before g) e, sum_before-suc g (j + d)) in
    let goal : sum_before (some_of g) j < sum_before (some_of g) (j + d) + min (g (j + d)) 1 =
    elim (cases_lt (sum_before g j) (sum_before g (j + d))) [
      | inl q ↦ omega (arith, some_more g j d q)
      | inr q ↦ omega (arith, sum_before-mono (some_of g) j d)
    ] in
    omega (arith, ap (sum_before (some_of g)) e, sum_before-suc (some_of g) (j + d))

-- what stands once the first finger has passed the last site
pub record Finished (f g : ℕ → ℕ) (n : ℕ) (ms : List Move) : Type 0 where
  pub plan : ms ≡ moves_before f g n n
  pub given : (k : ℕ) → k < n → sum_by (given_by k) ms ≡ f k
  pub got : (k : ℕ) → k < n → sum_by (got_by k) ms ≡ g k
  pub moved : sum_by amount_of ms ≡ sum_before f n
  pub few : 0 < n → length ms < n
  pub gifts : All (IsGift n) ms

pub finish : (f g : ℕ → ℕ) (n j : ℕ) (ms : List Move) → Progress f g n n j ms → sum_before f n ≡ sum_before g n
    → ((k : ℕ) → min (f k) (g k) ≡ 0) → Finished f g n ms
finish f g n j ms so same apart =
    let j_le : sum_before g j ≤ sum_before g n = sum_before-le g j n so.to_in in
    record {
      plan = rw (so.so_far, row_fresh f g n j (omega arith)) (append-nil _);
      given = λ k p. let le : sum_before f (suc k) ≤ sum_before f n = sum_before-le f (suc k) n (omega arith) in
          omega (arith, so.given k, sum_before-suc f k);
      got = λ k p. let le : sum_before g (suc k) ≤ sum_before g n = sum_before-le g (suc k) n (omega arith) in
          omega (arith, so.got k, sum_before-suc g k);
      moved = omega (arith, so.moved);
      few = λ p. few_at f g n j ms so same apart p;
      gifts = so.gifts;
    } where
      few_at : (f g : ℕ → ℕ) (n j : ℕ) (ms : List Move) → Progress f g n n j ms → sum_before f n ≡ sum_before g n
          → ((k : ℕ) → min (f k) (g k) ≡ 0) → 0 < n → length ms < n
      few_at f g n j ms so same apart p = elim (cases_lt 0 (sum_before f n)) [
        | inl h ↦
            let e : n ≡ j + (n - j) = omega (arith, so.to_in) in
            let longer : sum_before g j < sum_before g (j + (n - j)) = rw (← e) (so.goes_on h) in
            let stretches : sum_before (some_of g) j < sum_before (some_of g) (j + (n - j)) = some_more g j (n - j) longer in
            omega (arith, so.few, apart_le f g n apart, stretches, ap (sum_before (some_of g)) e)
        | inr h ↦
            omega (
              arith,
              so.few,
              sum_before-below (some_of f) f n (λ i. omega arith),
              sum_before-below (some_of g) g j (λ i. omega arith),
              sum_before-le g j n so.to_in,
            )
      ]

-- the pair at the fingers, as the code finds it
pub pair_pushed : (f g : ℕ → ℕ) (i j first last : ℕ) → first ≡ max (sum_before f i) (sum_before g j)
    → last ≡ min (sum_before f (suc i)) (sum_before g (suc j)) → first < last
    → pair_moves f g i j ≡ record { from = i; to = j; amount = last - first } ∷ []
unfolding overlap pair_move
pair_pushed f g i j first last p q h =
    let some : 0 < overlap f g i j = omega arith in
    rw (p, q) (pair_some f g i j some)

pub pair_passed : (f g : ℕ → ℕ) (i j first last : ℕ) → first ≡ max (sum_before f i) (sum_before g j)
    → last ≡ min (sum_before f (suc i)) (sum_before g (suc j)) → last ≤ first → pair_moves f g i j ≡ []
unfolding overlap
pair_passed f g i j first last p q h = let none : overlap f g i j ≡ 0 = omega arith in pair_none f g i j none

-- the pair at the fingers, as the code adds it
pub pair_added : (f g : ℕ → ℕ) (i j first last : ℕ) (ms grown : List Move) → first ≡ max (sum_before f i) (sum_before g j)
    → last ≡ min (sum_before f (suc i)) (sum_before g (suc j))
    → (first < last → grown ≡ ms ++ record { from = i; to = j; amount = last - first } ∷ []) → (last ≤ first → grown ≡ ms)
    → grown ≡ ms ++ pair_moves f g i j
pair_added f g i j first last ms grown p q some none = elim (cases_lt first last) [
  | inl h ↦ rw (pair_pushed f g i j first last p q h) (some h)
  | inr h ↦ rw (pair_passed f g i j first last p q h) (none h ∙ sym (append-nil ms))
]

-- rows and plans only grow
row_longer : (f g : ℕ → ℕ) (i j d : ℕ) → length (moves_from f g i j) ≤ length (moves_from f g i (j + d))
unfolding moves_from
row_longer f g i j zero = let e : j + 0 ≡ j = omega arith in rw e (omega arith)
row_longer f g i j (suc d) = let e : j + suc d ≡ suc (j + d) = omega arith in
    rw e (omega (arith, row_longer f g i j d, length-append (moves_from f g i (j + d)) (pair_moves f g i (j + d))))

plan_longer : (f g : ℕ → ℕ) (n i d : ℕ) → length (moves_before f g n i) ≤ length (moves_before f g n (i + d))
unfolding moves_before
plan_longer f g n i zero = let e : i + 0 ≡ i = omega arith in rw e (omega arith)
plan_longer f g n i (suc d) = let e : i + suc d ≡ suc (i + d) = omega arith in
    rw e (omega (arith, plan_longer f g n i d, length-append (moves_before f g n (i + d)) (moves_from f g (i + d) n)))

-- a plan with a pair whose stretches overlap has a move
pub plan_some : (f g : ℕ → ℕ) (n i j first last : ℕ) → first ≡ max (sum_before f i) (sum_before g j)
    → last ≡ min (sum_before f (suc i)) (sum_before g (suc j)) → first < last → i < n → j < n → moves_before f g n n ≡ [] → ⊥
unfolding moves_before moves_from
plan_some f g n i j first last p q h il jl none =
    let to_row : n ≡ suc j + (n - suc j) = omega arith in
    let to_plan : n ≡ suc i + (n - suc i) = omega arith in
    let in_row : length (moves_from f g i (suc j)) ≤ length (moves_from f g i n) = rw to_row (row_longer f g i (suc j) (n - suc j)) in
    let in_plan : length (moves_before f g n (suc i)) ≤ length (moves_before f g n n) =
    omega (arith, plan_longer f g n (suc i) (n - suc i), ap (λ k. length (moves_before f g n k)) to_plan) in
    omega (
      arith,
      in_row,
      in_plan,
      ap length (pair_pushed f g i j first last p q h),
      ap length none,
      length-append (moves_from f g i j) (pair_moves f g i j),
      length-append (moves_before f g n i) (moves_from f g i n),
    )
