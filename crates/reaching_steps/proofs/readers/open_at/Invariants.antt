use Rattle.std.proofs.Common.{◌≡◌, take}
use Rattle.reaching_steps.proofs.readers.open_at.Given as goal

abbrev pub invariant-loop-id : goal.invariant-loop-id
invariant-loop-id l = l.ids.items ≡ take l.id-index l.open
