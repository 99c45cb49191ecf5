use Rattle.std.proofs.Common.{◌≡◌, ap, ◌∙◌, arith, reverse}
use Rattle.field_bounds.specs.declared.kind.Kind.{Kind}
use Rattle.field_bounds.specs.Effects.{granted_sizes, is_committed}
use Rattle.field_bounds.specs.Kind.{other}
use Rattle.central_rules.proofs.afresh.share.Goals as goal

pub returns-clause-value : goal.returns-clause-value
returns-clause-value c =
    let es = reverse c.args.effects.now in
    let turned : c.granted_sizes-2.result ≡ granted_sizes (λ id. is_committed id es) c.args.field.0 (other c.args.kind) es =
    c.granted_sizes-2.ensures.value ∙ ap (λ (k : Kind). granted_sizes (λ id. is_committed id es) c.args.field.0 k es) c.other.ensures.value
    in
    omega (
      arith,
      c.part.ensures,
      c.from.ensures,
      c.granted_sizes.ensures.value,
      turned,
      c.gains.ensures.value c.args.schema.now c.args.site.0,
      c.granted_sizes-3.ensures.value,
      c.gifts.ensures.value,
      c.saturating_sub.ensures,
    )
