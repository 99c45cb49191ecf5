use Rattle.std.proofs.Common.{◌≡◌, ◌<◌, ℕ, length}
use Rattle.std.specs.Prelude.{slice_index_or, Err}
use Rattle.world_logs.specs.Body.{StandsForLog}
use Rattle.world_logs.specs.Outcomes.{IsOutcome}
use Rattle.folder_tests.proofs.of_world_logs.outcomes_of.Given as goal

-- there is what the logs so far came to
abbrev pub invariant-loop-number : goal.invariant-loop-number
invariant-loop-number g l = record {
  count : length l.outcomes.items ≡ l.number;
  each : (s : ℕ) → s < l.number → IsOutcome l.schema (StandsForLog l.schema) s (slice_index_or l.outcomes.items s (Err 0));
}
