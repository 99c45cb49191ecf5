use Rattle.std.proofs.lemmas.Grind.{common_steps}
use Rattle.std.proofs.Common.{◌<◌, length, ◌∙◌, arith}
use Rattle.world_logs.specs.Logs.{IsPair}
use Rattle.world_logs.specs.Lost.{known_log, known_records}
use Rattle.world_logs.proofs.Readings.{giver_place, taker_place}
use Rattle.world_logs.proofs.LostReadings.{records_at, lost_is, flight_none_from, flight_none_to, flight_to_itself}
use Rattle.world_logs.proofs.lost_sums.flight_by.Goals as goal
use Rattle.world_logs.proofs.lost_sums.flight_by.Goals.{then-from-to-via-then-from-to, then-from-to-via-else-from-to+then-is_lost, then-from-to-via-else-from-to+else-is_lost+then-is_lost-2}

pub returns-then-from-to : goal.returns-then-from-to
returns-then-from-to c =
    record {
      value = λ known is.
          let schema = c.args.schema.now in
          let from = c.args.from.0 in
          let to = c.args.to.0 in
          let f = c.args.field.0 in
          let k = c.args.kind in
          let giver : from < length known = omega (arith, is.count, c.requires.from_in) in
          let taker : to < length known = omega (arith, is.count, c.requires.to_in) in
          elim c.then-from-to.branch [
            | then-from-to-via-then-from-to w ↦
                rw (← w.if-from-to.true) (flight_to_itself schema (known_log known from) from f k
                (rw (← records_at known from giver) (is.stand.lawful.each from c.requires.from_in)))
            | then-from-to-via-else-from-to+then-is_lost w ↦
                flight_none_from (known_log known from) (known_log known to) from to f k
                (lost_is known c.args.lost.now from w.is_lost.result is.lost_is giver w.is_lost.ensures ∙ w.if-is_lost.true)
            | then-from-to-via-else-from-to+else-is_lost+then-is_lost-2 w ↦
                flight_none_to (known_log known from) (known_log known to) from to f k
                (lost_is known c.args.lost.now to w.is_lost-else-is_lost.result is.lost_is taker w.is_lost-else-is_lost.ensures
                ∙ w.if-is_lost-2.true)
          ];
    }

pub total-given-requires : goal.total-given-requires
total-given-requires c =
    let pair : IsPair c.args.schema.now c.args.from.0 c.args.to.0 c.args.field.0 =
    record { from_in = c.requires.from_in; to_in = c.requires.to_in; apart = c.if-from-to.false; field_in = c.requires.field_in } in
    record {
      place = giver_place c.args.schema.now (known_records c.requires.of_known.0) c.args.standings.now c.requires.of_known.1.stand
          c.args.from.0 c.args.to.0 c.args.field.0 c.from.result c.index-standings-from.result pair c.from.ensures;
    }

pub accepted-accepted-requires : goal.accepted-accepted-requires
accepted-accepted-requires c =
    let pair : IsPair c.args.schema.now c.args.from.0 c.args.to.0 c.args.field.0 =
    record { from_in = c.requires.from_in; to_in = c.requires.to_in; apart = c.if-from-to.false; field_in = c.requires.field_in } in
    record {
      place = taker_place c.args.schema.now (known_records c.requires.of_known.0) c.args.standings.now c.requires.of_known.1.stand
          c.args.from.0 c.args.to.0 c.args.field.0 c.from-2.result c.index-standings-from-2.result pair c.from-2.ensures;
    }

pub returns : goal.returns
returns c = grind (arith, common_steps)
