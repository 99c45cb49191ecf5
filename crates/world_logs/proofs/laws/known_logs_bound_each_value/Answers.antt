use Rattle.world_logs.proofs.Known.{value_between}
use Rattle.world_logs.proofs.laws.known_logs_bound_each_value.Goals as goal

pub returns : goal.returns
returns c = record { within = λ schema known logs good may f field_in. value_between schema known logs may good f field_in }
