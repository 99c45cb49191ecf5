use Rattle.world_steps.proofs.Living.{part_of}
use Rattle.world_steps.proofs.world.World.do_fine.Goals as goal

pub returns-clause-sound : goal.returns-clause-sound
returns-clause-sound c = part_of c.take_fine.result c.take_fine.ensures.one_store (λ is. is.sound)

pub returns-clause-central : goal.returns-clause-central
returns-clause-central c = part_of c.take_fine.result c.take_fine.ensures.one_store (λ is. is.central)

pub returns-clause-conserved : goal.returns-clause-conserved
returns-clause-conserved c = part_of c.take_fine.result c.take_fine.ensures.one_store (λ is. is.conserved)

pub returns-clause-bounded : goal.returns-clause-bounded
returns-clause-bounded c = part_of c.take_fine.result c.take_fine.ensures.one_store (λ is. is.bounded)

pub returns-clause-outcomes : goal.returns-clause-outcomes
returns-clause-outcomes c = part_of c.take_fine.result c.take_fine.ensures.one_store (λ is. is.outcomes)

pub returns-clause-tighter : goal.returns-clause-tighter
returns-clause-tighter c = part_of c.take_fine.result c.take_fine.ensures.one_store (λ is. is.tighter)

pub returns-clause-none_strange : goal.returns-clause-none_strange
returns-clause-none_strange c = part_of c.take_fine.result c.take_fine.ensures.one_store (λ is. is.none_strange)
