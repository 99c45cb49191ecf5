use Rattle.world_steps.proofs.Living.{one_store_seen}
use Rattle.world_steps.proofs.world.World.into_trace.Goals as goal

pub returns-clause-one_store : goal.returns-clause-one_store
returns-clause-one_store c = one_store_seen _ _ _ _ _ _ c.self.invariant c.self.view_is
