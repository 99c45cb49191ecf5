use Rattle.std.proofs.Common.{◌≡◌, ◌*◌, ◌≤◌, map}
use Rattle.std.specs.Prelude.{sum}
use Rattle.world_steps.specs.View.{trace_of}
use Rattle.escrow_run.specs.Level.{sites_up, free_at}
use Rattle.escrow_run.proofs.level.sites_up.Given as goal

abbrev pub invariant-loop-number : goal.invariant-loop-number
invariant-loop-number l = record {
  sites : l.up.sites.items ≡ sites_up l.world.schema (trace_of l.world) l.number;
  shares : l.up.shares.items ≡ map (free_at l.world.schema (trace_of l.world) l.level.field l.level.kind) l.up.sites.items;
  few : sum l.up.shares.items ≤ l.number * 2_000_000_000_000_000;
}
