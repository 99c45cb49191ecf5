use Rattle.std.proofs.Common.{sym, subst}
use Rattle.kept_records.specs.declared.record.Record.{Record}
use Rattle.log_replay.specs.Standing.{TakesIn}
use Rattle.log_replay.proofs.standing.Standing.take_in.Goals as goal

pub returns-in-Restart : goal.returns-in-Restart
returns-in-Restart c =
    record {
      takes_in = subst (λ (r : Record). TakesIn c.args.schema.now c.args.self.now r c.restart.result c.restart.new.self)
          (sym c.in-Restart.is) (c.restart.ensures.takes_in c.args.schema.now);
    }
