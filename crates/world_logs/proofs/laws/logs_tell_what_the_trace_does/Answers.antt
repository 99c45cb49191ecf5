use Rattle.world_logs.proofs.Left.{left_within, left_value, left_floor, left_ceiling}
use Rattle.world_logs.proofs.laws.logs_tell_what_the_trace_does.Goals as goal

pub returns-clause-within : goal.returns-clause-within
returns-clause-within c = λ schema trace kept logs sound are. left_within schema trace sound kept logs are

pub returns-clause-value : goal.returns-clause-value
returns-clause-value c = λ schema trace logs good sound are f field_in. left_value schema good trace sound logs are f field_in

pub returns-clause-floor : goal.returns-clause-floor
returns-clause-floor c = λ schema trace logs good sound are f. left_floor schema good trace sound logs are f

pub returns-clause-ceiling : goal.returns-clause-ceiling
returns-clause-ceiling c = λ schema trace logs good sound are f. left_ceiling schema good trace sound logs are f
