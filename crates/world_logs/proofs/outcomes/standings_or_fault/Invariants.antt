use Rattle.std.proofs.Common.{◌≡◌, ◌++◌, length, map}
use Rattle.std.specs.Prelude.{Ok}
use Rattle.world_logs.proofs.outcomes.standings_or_fault.Given as goal

-- those of the sites so far
abbrev pub invariant-loop-outcome : goal.invariant-loop-outcome
invariant-loop-outcome g l = record {
  site : l.site ≡ length l.standings.items;
  whole : l.yielded ++ l.outcome-iterator.rest.items ≡ l.fn.outcomes.items;
  same : l.yielded ≡ map (λ one. Ok one) l.standings.items;
}
