use Rattle.world_steps.proofs.Living.{one_store_of}
use Rattle.world_steps.proofs.laws.every_world_is_one_store.Goals as goal

pub returns : goal.returns
returns c = record {
  sound = λ schema steps good fit. (one_store_of schema good steps fit).sound;
  central = λ schema steps good fit. (one_store_of schema good steps fit).central;
  conserved = λ schema steps good fit. (one_store_of schema good steps fit).conserved;
  bounded = λ schema steps good fit. (one_store_of schema good steps fit).bounded;
  outcomes = λ schema steps good fit. (one_store_of schema good steps fit).outcomes;
  tighter = λ schema steps good fit. (one_store_of schema good steps fit).tighter;
  none_strange = λ schema steps good fit. (one_store_of schema good steps fit).none_strange;
}
