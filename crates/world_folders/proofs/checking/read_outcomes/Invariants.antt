use Rattle.std.proofs.Common.{◌≡◌, ◌<◌, ℕ, length}
use Rattle.std.specs.Prelude.{slice_index_or, Err}
use Rattle.world_folders.specs.Logs.{IsOutcomeRead}
use Rattle.world_folders.proofs.checking.read_outcomes.Given as goal

-- there is what the logs so far came to
abbrev pub invariant-loop-number : goal.invariant-loop-number
invariant-loop-number g l = record {
  count : length l.outcomes.items ≡ l.number;
  each : (s : ℕ) → s < l.number
      → IsOutcomeRead (g.R.ReadsFiles.holds l.fn.files) l.fn.world.folders.items l.fn.world.schema s
      (slice_index_or l.outcomes.items s (Err 0));
}
