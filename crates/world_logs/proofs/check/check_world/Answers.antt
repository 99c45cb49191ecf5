use Rattle.std.proofs.Common.{List, sym, subst}
use Rattle.log_replay.specs.declared.standing.Standing.{Standing}
use Rattle.world_logs.specs.Logs.{records_of}
use Rattle.world_logs.specs.Body.{AreForLogs}
use Rattle.world_logs.proofs.Gathered.{are_for_logs}
use Rattle.world_logs.proofs.check.check_world.Goals as goal

pub check_standings-requires : goal.check_standings-requires
check_standings-requires c =
    let schema = c.args.schema.now in
    record {
      of_logs = subst (λ (xs : List Standing). AreForLogs schema xs) (sym c.as_slice.ensures.value)
          (are_for_logs schema (records_of c.args.logs.now) c.in_ok-standings.standings.items c.in_ok-standings.ensures.stand);
    }
