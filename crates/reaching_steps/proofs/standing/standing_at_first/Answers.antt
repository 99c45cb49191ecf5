use Rattle.std.proofs.Common.{refl}
use Rattle.reaching_steps.proofs.Standings.{stands_first}
use Rattle.reaching_steps.proofs.standing.standing_at_first.Goals as goal

pub returns : goal.returns
returns c = record { fresh = stands_first _ c.new.ensures.items c.new-2.ensures.items refl refl c.new-3.ensures.items }
