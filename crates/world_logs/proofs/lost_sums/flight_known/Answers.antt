use Rattle.std.proofs.Common.{◌≡◌, ℕ, zero, suc, ◌-◌, ◌^◌, min, refl, ◌∙◌, ap, arith, rules}
use Rattle.field_bounds.specs.Parts.{sum_below}
use Rattle.world_logs.specs.Lost.{known_log, flight_by}
use Rattle.world_logs.proofs.lost_sums.flight_known.Goals as goal

-- a sum of terms that stop at a most, which stops there itself
sum_of_mins : (n : ℕ) (F : ℕ → ℕ) (most : ℕ) → min (sum_below n (λ s. min (F s) most)) most ≡ min (sum_below n F) most
sum_of_mins zero F most = refl
sum_of_mins (suc n) F most = omega (arith, sum_of_mins n F most)

pub returns : goal.returns
returns c =
    record {
      value = λ known is.
          let sites = c.args.schema.now.sites in
          let most = 2 ^ 64 - 1 in
          let from_one : ℕ → ℕ = λ (from : ℕ). sum_below sites
          (λ to. flight_by (known_log known from) (known_log known to) from to c.args.field.0 c.args.kind) in
          let told : ℕ → ℕ = λ (from : ℕ). min (from_one from) most in
          c.sum_over.ensures.value told (λ s x below post. search rules)
          ∙ ap (λ (n : ℕ). min (sum_below n told) most) c.sites.ensures.value
          ∙ sum_of_mins sites from_one most;
    }
