use Rattle.trace_weave.proofs.Places.{taken_by_places, one_taken_by}
use Rattle.trace_weave.proofs.laws.an_order_takes_each_next_entry.Goals as goal

pub returns : goal.returns
returns c = record { places = taken_by_places; one = one_taken_by }
