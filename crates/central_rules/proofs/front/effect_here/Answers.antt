use Rattle.std.proofs.Common.{reverse}
use Rattle.field_bounds.specs.Effects.{fresh, share}
use Rattle.central_rules.proofs.front.effect_here.Goals as goal

pub returns : goal.returns
returns c = c.effect_of.ensures.value (λ f k. share (fresh c.args.schema.now c.args.site.0) f k (reverse c.args.made.now))
    c.spared_in_doubt.ensures
