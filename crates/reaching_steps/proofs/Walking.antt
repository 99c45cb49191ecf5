-- A walk over effects from the newest on.
use Rattle.std.proofs.Common.{◌≡◌, ℕ, ◌+◌, ◌<◌, ◌≤◌, Bool, List, ◌∷◌, drop, length, get_or, ◌∙◌, ap, arith, add-one}
use Rattle.std.specs.Prelude.{Option}
use Rattle.std.proofs.lemmas.List.{drop_more}
use Rattle.field_bounds.specs.declared.kind.Kind.{Kind}
use Rattle.field_bounds.specs.declared.id.SiteNo.{SiteNo}
use Rattle.field_bounds.specs.Parts.{sum_below}
use Rattle.field_bounds.specs.declared.effect.Effect.{Effect}
use Rattle.field_bounds.specs.Effects.{gifts}

-- ---- gifts

pub gift_step : (p : Option SiteNo → Bool) (f : ℕ) (k : Kind) (deeds : List Effect) (i : ℕ) (d : Effect) (x a b all : ℕ) → i < length deeds
    → ((es : List Effect) → gifts p f k ((get_or deeds i d) ∷ es) ≡ a + gifts p f k es) → b ≡ a
    → x + gifts p f k (drop i deeds) ≡ all → (x + b) + gifts p f k (drop (i + 1) deeds) ≡ all
gift_step p f k deeds i d x a b all below adds same was =
    let is = ap (λ (l : List Effect). gifts p f k l) (drop_more deeds i d below) in
    omega (arith, is, adds (drop (i + 1) deeds), was, same)

pub sum_next : (F : ℕ → ℕ) (i all more : ℕ) → all ≡ sum_below i F → more ≡ F i → all + more ≡ sum_below (i + 1) F
sum_next F i all more was is = rw add-one (omega (arith, was, is))

pub sum_whole : (F : ℕ → ℕ) (i n all : ℕ) → i ≤ n → n ≤ i → all ≡ sum_below i F → all ≡ sum_below n F
sum_whole F i n all low high was = let same : i ≡ n = omega (arith, low, high) in was ∙ ap (λ (m : ℕ). sum_below m F) same
