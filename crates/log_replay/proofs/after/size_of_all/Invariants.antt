use Rattle.std.proofs.Common.{◌≡◌, take}
use Rattle.std.specs.Prelude.{sum_by}
use Rattle.field_bounds.specs.Effects.{takes}
use Rattle.log_replay.proofs.after.size_of_all.Given as goal

abbrev pub invariant-loop-escrow : goal.invariant-loop-escrow
invariant-loop-escrow l = l.size ≡ sum_by (takes l.field.0 l.kind) (take l.escrow-index l.escrows)
