use Rattle.std.proofs.Common.{rules}
use Rattle.world_logs.proofs.Readings.{giver_place, taker_place}
use Rattle.world_logs.proofs.excess_search.excess_at.Goals as goal

pub total-given-requires : goal.total-given-requires
total-given-requires c =
    record {
      place = giver_place c.args.schema.now c.requires.of_logs.0 c.args.standings.now c.requires.of_logs.1 c.args.from.0 c.args.to.0
          c.args.field.0 c.from.result c.index-standings-from.result c.requires.pair c.from.ensures;
    }

pub accepted-accepted-requires : goal.accepted-accepted-requires
accepted-accepted-requires c =
    record {
      place = taker_place c.args.schema.now c.requires.of_logs.0 c.args.standings.now c.requires.of_logs.1 c.args.from.0 c.args.to.0
          c.args.field.0 c.from-2.result c.index-standings-from-2.result c.requires.pair c.from-2.ensures;
    }

pub returns-then-accepted-given-clause-none : goal.returns-then-accepted-given-clause-none
returns-then-accepted-given-clause-none c = search rules

pub returns-clause-some : goal.returns-clause-some
returns-clause-some c = search rules
