use Rattle.world_steps.proofs.Living.{one_store_seen}
use Rattle.world_steps.proofs.world.World.trace.Goals as goal

pub returns-clause-sound : goal.returns-clause-sound
returns-clause-sound c = (one_store_seen _ _ _ _ _ _ c.self.invariant c.self.view_is).sound

pub returns-clause-central : goal.returns-clause-central
returns-clause-central c = (one_store_seen _ _ _ _ _ _ c.self.invariant c.self.view_is).central

pub returns-clause-conserved : goal.returns-clause-conserved
returns-clause-conserved c = (one_store_seen _ _ _ _ _ _ c.self.invariant c.self.view_is).conserved

pub returns-clause-bounded : goal.returns-clause-bounded
returns-clause-bounded c = (one_store_seen _ _ _ _ _ _ c.self.invariant c.self.view_is).bounded

pub returns-clause-outcomes : goal.returns-clause-outcomes
returns-clause-outcomes c = (one_store_seen _ _ _ _ _ _ c.self.invariant c.self.view_is).outcomes

pub returns-clause-tighter : goal.returns-clause-tighter
returns-clause-tighter c = (one_store_seen _ _ _ _ _ _ c.self.invariant c.self.view_is).tighter

pub returns-clause-none_strange : goal.returns-clause-none_strange
returns-clause-none_strange c = (one_store_seen _ _ _ _ _ _ c.self.invariant c.self.view_is).none_strange
