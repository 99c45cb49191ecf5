use Rattle.std.proofs.Common.{◌≡◌, ℕ, ap, sym, ◌∙◌, arith, reverse}
use Rattle.field_bounds.specs.Effects.{granted_sizes}
use Rattle.field_bounds.specs.Central.{at_site}
use Rattle.field_bounds.specs.Parts.{sum_below}
use Rattle.central_rules.specs.Fates.{passes}
use Rattle.central_rules.proofs.Across.{by_sites}
use Rattle.central_rules.proofs.front.total.Goals as goal

pub returns-clause-value : goal.returns-clause-value
returns-clause-value c =
    let schema = c.args.schema.now in
    let t = reverse c.args.front.now in
    let done : c.loop-site.site ≡ schema.sites = omega arith in
    c.loop-site.invariant.value
    ∙ ap (λ (n : ℕ). sum_below n (λ s. granted_sizes (passes c.args.which (at_site schema t s)) c.args.field.0 c.args.kind
    (at_site schema t s))) done
    ∙ sym (by_sites schema t c.requires.sound (λ s id. passes c.args.which (at_site schema t s) id) c.args.field.0 c.args.kind)
