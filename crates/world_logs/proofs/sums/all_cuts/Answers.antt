use Rattle.std.proofs.Common.{◌≡◌, ℕ, ◌-◌, ◌^◌, min, ◌∙◌, ap, arith, rules}
use Rattle.field_bounds.specs.Parts.{sum_below}
use Rattle.kept_records.specs.Stands.{cut_in}
use Rattle.world_logs.specs.Logs.{log_of}
use Rattle.world_logs.proofs.Totals.{all_few}
use Rattle.world_logs.proofs.sums.all_cuts.Goals as goal

pub returns-clause-value : goal.returns-clause-value
returns-clause-value c = λ logs is.
    let schema = c.args.schema.now in
    let f = c.args.field.0 in
    let k = c.args.kind in
    let stand = is.stand in
    let one : ℕ → ℕ = λ (s : ℕ). cut_in (log_of logs s) f k in
    let told : c.sum_over.result ≡ min (sum_below schema.sites one) (2 ^ 64 - 1) =
    c.sum_over.ensures.value one (λ s x below post. search rules)
    ∙ ap (λ (n : ℕ). min (sum_below n one) (2 ^ 64 - 1)) c.sites.ensures.value in
    omega (arith, told, all_few schema c.sites.ensures.limits logs stand.lawful is.within f k c.requires.field_in)

pub returns-clause-most : goal.returns-clause-most
returns-clause-most c =
    let logs = c.requires.of_world.0 in
    let is = c.requires.of_world.1 in
    omega (
      arith,
      returns-clause-value c logs is,
      all_few c.args.schema.now c.sites.ensures.limits logs is.stand.lawful is.within c.args.field.0 c.args.kind c.requires.field_in,
    )
