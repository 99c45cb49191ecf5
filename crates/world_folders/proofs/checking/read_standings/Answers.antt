use Rattle.world_folders.proofs.Gathered.{stand_as_read}
use Rattle.world_folders.proofs.checking.read_standings.Goals as goal

pub returns-in-Ok : goal.returns-in-Ok
returns-in-Ok g c = record {
  stand =
      stand_as_read (g.R.ReadsFiles.holds c.args.files.now) c.args.world.now.folders.items c.args.world.now.schema
      c.in_ok-outcomes.outcomes.items c.in-Ok.standings.items c.in_ok-outcomes.ensures.outcomes c.in-Ok.ensures.standings;
}
