use Rattle.std.proofs.Common.{List, sym, subst}
use Rattle.log_replay.specs.declared.standing.Standing.{Standing}
use Rattle.world_logs.specs.Body.{AreForLogs}
use Rattle.world_folders.specs.Logs.{StandAsRead}
use Rattle.world_folders.proofs.Gathered.{accounts, are_for_logs}
use Rattle.world_folders.proofs.checking.checked_states.Goals as goal

pub check_standings-requires : goal.check_standings-requires
check_standings-requires g c =
    let world = c.args.world.now in
    record {
      of_logs = subst (λ (xs : List Standing). AreForLogs world.schema xs) (sym c.as_slice.ensures.value)
          (are_for_logs (g.R.ReadsFiles.holds c.args.files.now) world.folders.items world.schema c.in_ok-standings.standings.items
          c.in_ok-standings.ensures.stand);
    }

pub returns-in-Ok : goal.returns-in-Ok
returns-in-Ok g c =
    let world = c.args.world.now in
    let holds = g.R.ReadsFiles.holds c.args.files.now in
    record {
      count = c.in-Ok.ensures.count;
      accounts =
          accounts holds world.folders.items world.schema c.as_slice.result.now c.in-Ok.states.items
          (subst (λ (xs : List Standing). StandAsRead holds world.folders.items world.schema xs) (sym c.as_slice.ensures.value)
          c.in_ok-standings.ensures.stand) c.in-Ok.ensures.within c.in-Ok.ensures.states;
    }
