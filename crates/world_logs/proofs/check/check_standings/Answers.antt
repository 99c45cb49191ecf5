use Rattle.std.proofs.Common.{refl, rules}
use Rattle.world_logs.proofs.Gathered.{gathered}
use Rattle.world_logs.proofs.check.check_standings.Goals as goal

pub first_excess-requires : goal.first_excess-requires
first_excess-requires c = record { of_logs = gathered c.args.schema.now c.args.standings.now c.requires.of_logs }

pub states_of-requires : goal.states_of-requires
states_of-requires c =
    let all = gathered c.args.schema.now c.args.standings.now c.requires.of_logs in
    record {
      of_world = (
        all.0,
        record {
          stand = all.1;
          within = λ from to f k pair. c.in-None.ensures.none all.0 all.1 from to f k
              (record { pair = pair; from_known = refl; to_known = refl });
        },
      );
    }

pub returns-in_ok-states_of-in-None-clause-count : goal.returns-in_ok-states_of-in-None-clause-count
returns-in_ok-states_of-in-None-clause-count c =
    let all = gathered c.args.schema.now c.args.standings.now c.requires.of_logs in
    (c.in_ok-states_of-in-None.ensures.states all.0
    (record {
      stand = all.1;
      within = λ from to f k pair. c.in-None.ensures.none all.0 all.1 from to f k
          (record { pair = pair; from_known = refl; to_known = refl });
    })).count

pub returns-in-Some-clause-count : goal.returns-in-Some-clause-count
returns-in-Some-clause-count c = search rules

pub returns-in-Some-clause-within : goal.returns-in-Some-clause-within
returns-in-Some-clause-within c = search rules

pub returns-in-Some-clause-states : goal.returns-in-Some-clause-states
returns-in-Some-clause-states c = search rules

pub returns-in-Some-clause-fault : goal.returns-in-Some-clause-fault
returns-in-Some-clause-fault c = search rules
