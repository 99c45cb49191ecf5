use Rattle.std.proofs.Common.{◌≡◌, map, take}
use Rattle.escrow_run.specs.Level.{gift_of}
use Rattle.escrow_run.proofs.level.gifts_of.Given as goal

abbrev pub invariant-loop-planned : goal.invariant-loop-planned
invariant-loop-planned l = l.gifts.items ≡ map (gift_of l.sites l.level.field l.level.kind) (take l.planned-index l.plan)
