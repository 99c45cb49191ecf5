use Rattle.std.proofs.Common.{◌≡◌, ◌<◌, ℕ, length}
use Rattle.std.specs.Prelude.{slice_index_or, Err}
use Rattle.world_folders.specs.Lost.{IsKnownOutcome}
use Rattle.world_folders.proofs.settling.read_all_known.Given as goal

-- there is what the logs so far came to
abbrev pub invariant-loop-number : goal.invariant-loop-number
invariant-loop-number g l = record {
  count : length l.outcomes.items ≡ l.number;
  each : (s : ℕ) → s < l.number
      → IsKnownOutcome (g.R.ReadsFiles.holds l.fn.files) l.fn.world.folders.items l.fn.world.schema l.fn.lost s
      (slice_index_or l.outcomes.items s (Err 0));
}
