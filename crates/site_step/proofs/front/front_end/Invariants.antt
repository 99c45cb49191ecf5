-- A summary's line starts here, and no front ends from there on that can be let go.
use Rattle.std.proofs.Common.{ℕ, ◌≤◌}
use Rattle.kept_records.specs.ReadingBack.{IsSummaryLine}
use Rattle.site_step.specs.Shortening.{IsInLine, IsFrontEnd}
use Rattle.site_step.proofs.front.front_end.Given as goal

abbrev pub invariant-loop-at : goal.invariant-loop-at
invariant-loop-at l = record {
  line : IsSummaryLine l.bytes l.further;
  inside : IsInLine l.bytes l.further;
  none : (place : ℕ) → l.further ≤ place → IsFrontEnd l.bytes l.keep place → ⊥;
}

abbrev pub decreases-loop-at : goal.decreases-loop-at
decreases-loop-at l = l.further
