use Rattle.std.proofs.Common.{◌≡◌, ℕ, ◌≤◌, take}
use Rattle.std.specs.Prelude.{sum_by}
use Rattle.field_bounds.specs.declared.kind.Kind.{Kind}
use Rattle.field_bounds.specs.Effects.{takes}
use Rattle.site_rights.specs.Rights.{free_at, by_escrows, after_take}
use Rattle.log_replay.proofs.standing.take_all.Given as goal

-- the escrows so far were taken, and so many rights were free
abbrev pub invariant-loop-escrow : goal.invariant-loop-escrow
invariant-loop-escrow l = record {
  taken_so_far : l.rights ≡ by_escrows after_take l.fn.rights (take l.escrow-index l.escrows);
  free_so_far : (f : ℕ) (k : Kind) → sum_by (takes f k) (take l.escrow-index l.escrows) ≤ free_at l.fn.rights f k;
}
