use Rattle.std.proofs.Common.{◌≡◌, ◌≤◌, ◌*◌, ◌+◌, ℕ}
use Rattle.field_bounds.specs.declared.kind.Kind.TheVariants.{Lower, Raise}
use Rattle.field_bounds.specs.Parts.{sum_below}
use Rattle.field_bounds.specs.Effects.{granted_sizes, is_committed}
use Rattle.field_bounds.specs.Central.{at_site}
use Rattle.world_steps.specs.View.{trace_of}
use Rattle.reaching_steps.proofs.shares.committed_at.Given as goal

abbrev pub invariant-loop-site : goal.invariant-loop-site
invariant-loop-site l =
    (l.up + sum_below l.site (λ (s : ℕ). granted_sizes (λ id. is_committed id (at_site l.trial.schema (trace_of l.trial) s)) l.field.0 Lower
    (at_site l.trial.schema (trace_of l.trial) s))
    ≡ l.down + sum_below l.site (λ (s : ℕ). granted_sizes
    (λ id. is_committed id (at_site l.trial.schema (trace_of l.trial) s)) l.field.0 Raise
    (at_site l.trial.schema (trace_of l.trial) s)))
    × (l.up ≤ l.site * 100000000000000000000)
    × (l.down ≤ l.site * 100000000000000000000)
