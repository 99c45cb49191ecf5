use Rattle.std.proofs.Common.{List, Option}
use Rattle.std.proofs.lemmas.Result.{IfOk-weaker, IfErr-weaker}
use Rattle.kept_records.specs.declared.record.Record.{Record}
use Rattle.world_logs.specs.Lost.{known_records}
use Rattle.world_logs.specs.LostBody.{AreForKnown}
use Rattle.world_logs.proofs.LostReadings.{stand_where_known, known_within, excess_tells, too_much_tells}
use Rattle.world_logs.proofs.Gathered.{known_gathered}
use Rattle.world_logs.proofs.lost.bound_standings.Goals as goal

pub first_excess-requires : goal.first_excess-requires
first_excess-requires c =
    let all = known_gathered c.args.schema.now c.args.standings.items c.requires.of_known in
    let is = stand_where_known all.1 c.in_ok-filled.ensures.filled c.as_slice-all.ensures.value c.in_ok-lost.ensures
    c.as_slice.ensures.value c.as_slice-lost.ensures.value in
    record { of_logs = (known_records all.0, is.stand) }

pub ranges_of-requires : goal.ranges_of-requires
ranges_of-requires c =
    let all = known_gathered c.args.schema.now c.args.standings.items c.requires.of_known in
    record {
      of_known = (
        all.0,
        stand_where_known all.1 c.in_ok-filled.ensures.filled c.as_slice-all.ensures.value c.in_ok-lost.ensures
            c.as_slice.ensures.value c.as_slice-lost.ensures.value,
      );
    }

pub returns-in-Some-clause-fault : goal.returns-in-Some-clause-fault
returns-in-Some-clause-fault c = λ known for_.
    let is = stand_where_known for_ c.in_ok-filled.ensures.filled c.as_slice-all.ensures.value c.in_ok-lost.ensures
    c.as_slice.ensures.value c.as_slice-lost.ensures.value in
    excess_tells is (c.in-Some.ensures.some (known_records known) is.stand)

pub returns : goal.returns
returns c =
    let schema = c.args.schema.now in
    let all = known_gathered schema c.args.standings.items c.requires.of_known in
    let is = λ (known : List (Option (List Record))) (for_ : AreForKnown schema known c.args.standings.items).
    stand_where_known for_ c.in_ok-filled.ensures.filled c.as_slice-all.ensures.value c.in_ok-lost.ensures c.as_slice.ensures.value
    c.as_slice-lost.ensures.value in
    let within = λ (known : List (Option (List Record))) (for_ : AreForKnown schema known c.args.standings.items).
    known_within (is known for_) (c.in-None.ensures.none (known_records known) (is known for_).stand) in
    record {
      count = IfOk-weaker c.ranges_of.result _ _ (λ ranges told. (told all.0 (is all.0 all.1)).count) c.ranges_of.ensures.ranges;
      within = IfOk-weaker c.ranges_of.result _ _ (λ ranges told. within) c.ranges_of.ensures.ranges;
      ranges = IfOk-weaker c.ranges_of.result _ _ (λ ranges told known for_. told known (is known for_)) c.ranges_of.ensures.ranges;
      fault = IfErr-weaker c.ranges_of.result _ _
          (λ fault told known for_. too_much_tells schema known fault (within known for_) (told known (is known for_)))
          c.ranges_of.ensures.fault;
    }
