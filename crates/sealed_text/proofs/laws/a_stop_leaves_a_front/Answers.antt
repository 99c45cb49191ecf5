use Rattle.sealed_text.proofs.Stops.{torn_stops, ended_stops}
use Rattle.sealed_text.proofs.laws.a_stop_leaves_a_front.Goals as goal

pub returns : goal.returns
returns c = record { torn = torn_stops; ended = ended_stops }
