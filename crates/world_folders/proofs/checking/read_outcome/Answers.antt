use Rattle.log_replay.specs.declared.log_bytes.LogReplayed.TheVariants as came
use Rattle.world_folders.proofs.ReadLogs.{comes_read}
use Rattle.world_folders.proofs.checking.read_outcome.Goals as goal

pub returns-in-Standing : goal.returns-in-Standing
returns-in-Standing g c =
    let world = c.args.world.now in
    record {
      outcome = record {
        size = c.in-Standing.length;
        comes =
            comes_read (g.R.ReadsFiles.holds c.args.files.now) world.folders.items world.schema c.args.site.0 c.in_ok-folder.folder.now
            c.in_ok-came.field-0 (came.Standing c.in-Standing.standing c.in-Standing.length) c.in_ok-folder.ensures.own
            c.in_ok-came.ensures.replayed c.in-Standing.is;
      };
    }

pub returns-in-BreaksRule : goal.returns-in-BreaksRule
returns-in-BreaksRule g c =
    let world = c.args.world.now in
    record {
      outcome =
          comes_read (g.R.ReadsFiles.holds c.args.files.now) world.folders.items world.schema c.args.site.0 c.in_ok-folder.folder.now
          c.in_ok-came.field-0 (came.BreaksRule c.in-BreaksRule.number) c.in_ok-folder.ensures.own
          c.in_ok-came.ensures.replayed c.in-BreaksRule.is;
    }
