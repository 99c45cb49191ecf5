use Rattle.world_logs.proofs.NoneBroken.{are_for_known}
use Rattle.folder_tests.proofs.of_world_logs.bounded_standings.Goals as goal

pub bound_standings-requires : goal.bound_standings-requires
bound_standings-requires g c = record {
  of_known = are_for_known c.expect-schema.result c.in_ok-outcomes.outcomes.items c.in_ok-standings.standings.items c.in_ok-outcomes.ensures
      c.in_ok-standings.ensures.standings;
}
