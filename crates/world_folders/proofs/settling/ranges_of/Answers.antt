use Rattle.world_folders.proofs.Gathered.{are_for_known_logs, bounds}
use Rattle.world_folders.proofs.settling.ranges_of.Goals as goal

pub bound_standings-requires : goal.bound_standings-requires
bound_standings-requires g c =
    let world = c.args.world.now in
    record {
      of_known =
          are_for_known_logs (g.R.ReadsFiles.holds c.args.files.now) world.folders.items world.schema c.args.lost.now
          c.in_ok-standings.standings.items c.in_ok-standings.ensures.stand;
    }

pub returns-in-Ok : goal.returns-in-Ok
returns-in-Ok g c =
    let world = c.args.world.now in
    record {
      count = c.in-Ok.ensures.count;
      bounds =
          bounds (g.R.ReadsFiles.holds c.args.files.now) world.folders.items world.schema c.args.lost.now
          c.in_ok-standings.standings.items c.in-Ok.ranges.items c.in_ok-standings.ensures.stand c.in-Ok.ensures.within
          c.in-Ok.ensures.ranges;
    }
