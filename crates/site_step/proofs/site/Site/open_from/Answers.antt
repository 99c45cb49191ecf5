use Rattle.std.proofs.Common.{subst}
use Rattle.field_bounds.specs.Schema.{SchemaValue}
use Rattle.field_bounds.specs.Limits.{IsSchema}
use Rattle.log_bases.proofs.Needed.{past_tells}
use Rattle.site_step.proofs.Fronts.{begins_with}
use Rattle.site_step.proofs.site.Site.open_from.Goals as goal

pub of_summary-requires-clause-in_range : goal.of_summary-requires-clause-in_range
of_summary-requires-clause-in_range g c = c.requires.1.1.1.1.1.fits

pub of_summary-requires-clause-tells : goal.of_summary-requires-clause-tells
of_summary-requires-clause-tells g c =
    let limits = subst (λ (x : SchemaValue). IsSchema x) c.schema.view_is c.schema.invariant in
    (g.past, c.requires.1.1.1.0.lawful, past_tells c.args.schema limits c.args.site.0 c.requires.1.1.0 c.args.base.now g.past c.requires.1.1.1.0)

pub open_over-requires : goal.open_over-requires
open_over-requires g c = λ κs below.
    let limits = subst (λ (x : SchemaValue). IsSchema x) c.schema.view_is c.schema.invariant in
    let past = c.requires.1.1.1.0 in (
      below.0,
      (
        below.1,
        (
          c.requires.1.1.0,
          record {
            each = past.each;
            lawful = past.lawful;
            stands = c.in-Ok.ensures.stands g.past
                (past_tells c.args.schema limits c.args.site.0 c.requires.1.1.0 c.args.base.now g.past past);
            begins = begins_with g.past c.requires.1.1.1.1;
          },
        ),
      ),
    )
