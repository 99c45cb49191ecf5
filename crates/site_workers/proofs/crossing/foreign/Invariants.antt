use Rattle.std.proofs.Common.{ℕ, ◌<◌}
use Rattle.site_workers.specs.Scripts.{histories_of}
use Rattle.site_workers.specs.Crossing.{AcceptsIssued}
use Rattle.site_workers.proofs.crossing.foreign.Given as goal

abbrev pub invariant-loop-site : goal.invariant-loop-site
invariant-loop-site l = (j : ℕ) → j < l.site → AcceptsIssued (histories_of l.histories) j
