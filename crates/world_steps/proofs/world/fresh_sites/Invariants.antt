use Rattle.std.proofs.Common.{◌≡◌, [], length}
use Rattle.world_steps.specs.Standing.{AllFollow}
use Rattle.world_steps.proofs.world.fresh_sites.Given as goal

abbrev pub invariant-loop-number : goal.invariant-loop-number
invariant-loop-number l = (length l.sites.items ≡ l.number) × AllFollow l.schema [] 0 l.sites.items
