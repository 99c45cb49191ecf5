use Rattle.std.proofs.Common.{refl, inl}
use Rattle.std.proofs.lemmas.Result.{IfErr-weaker}
use Rattle.site_step.proofs.Fronts.{tells_first, spares_first}
use Rattle.site_step.proofs.site.Site.open_with.Goals as goal

pub open_over-requires : goal.open_over-requires
open_over-requires g c = λ κs below. (
  below.0,
  (
    below.1,
    (
      c.requires.in_schema,
      record { each = tt; lawful = tt; stands = c.in-Ok.ensures.nothing; begins = λ rs rest log. inl refl },
    ),
  ),
)

pub returns-in-Ok-clause-line : goal.returns-in-Ok-clause-line
returns-in-Ok-clause-line g c =
    IfErr-weaker c.open_over.result _ _
    (λ refused tells. tells_first c.args.schema c.args.site.0 (g.M.Medium.bytes c.args.medium) refused.0 tells) c.open_over.ensures.line

pub returns-in-Ok-clause-never : goal.returns-in-Ok-clause-never
returns-in-Ok-clause-never g c =
    IfErr-weaker c.open_over.result _ _
    (λ refused spares. spares_first c.args.schema c.args.site.0 (g.M.Medium.bytes c.args.medium) refused.0 spares) c.open_over.ensures.never
