use Rattle.std.proofs.Common.{◌≡◌}
use Rattle.field_bounds.specs.declared.kind.Kind.TheVariants.{Lower, Raise}
use Rattle.field_bounds.specs.Parts.{sum_below}
use Rattle.field_bounds.specs.Effects.{fresh, cut}
use Rattle.field_bounds.specs.Central.{at_site}
use Rattle.world_steps.specs.View.{trace_of}
use Rattle.reaching_steps.proofs.faults.is_tightened.Given as goal

abbrev pub invariant-loop-site : goal.invariant-loop-site
invariant-loop-site l =
    (sum_below l.site (λ s. cut (fresh l.trial.schema s) l.field.0 Lower (at_site l.trial.schema (trace_of l.trial) s)) ≡ 0)
    × (sum_below l.site (λ s. cut (fresh l.trial.schema s) l.field.0 Raise (at_site l.trial.schema (trace_of l.trial) s)) ≡ 0)
