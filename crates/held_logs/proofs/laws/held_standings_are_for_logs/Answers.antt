use Rattle.held_logs.proofs.Taken.{for_log}
use Rattle.held_logs.proofs.laws.held_standings_are_for_logs.Goals as goal

pub returns : goal.returns
returns c = record {
  whole = λ schema s bytes standing n comes. (comes.records, comes.lawful, comes.stands);
  behind = λ schema s bytes standing n from. for_log from;
}
