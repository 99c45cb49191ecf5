use Rattle.std.proofs.Common.{◌<◌, ◌≤◌, ℕ, true, false, All}
use Rattle.world_folders.specs.Lost.{TellsLost, IsNotAmong, RiseFrom}
use Rattle.world_folders.proofs.settling.lost_sites.Given as goal

-- there are those of the sites so far whose logs are lost
abbrev pub invariant-loop-number : goal.invariant-loop-number
invariant-loop-number g l = record {
  within : l.number ≤ l.fn.world.schema.sites;
  order : RiseFrom 0 l.number l.lost.items;
  each : All (λ site. TellsLost (g.R.ReadsFiles.stands l.fn.files) l.fn.world.folders.items site.0 true) l.lost.items;
  others : (s : ℕ) → s < l.number → IsNotAmong l.lost.items s
      → TellsLost (g.R.ReadsFiles.stands l.fn.files) l.fn.world.folders.items s false;
}
