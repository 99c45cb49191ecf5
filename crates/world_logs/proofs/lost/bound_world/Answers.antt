use Rattle.std.proofs.Common.{List, sym, subst}
use Rattle.std.specs.List.{AllByRecursion}
use Rattle.std.proofs.lemmas.Result.{IfOk-weaker, IfErr-weaker, err_from_is_err_and}
use Rattle.kept_records.specs.declared.record.Record.{Record}
use Rattle.kept_records.specs.Text.{IsRecord}
use Rattle.world_logs.specs.Logs.{log_of}
use Rattle.world_logs.specs.Faults.{TellsUnlawful}
use Rattle.world_logs.specs.Lost.{known_of, known_records}
use Rattle.world_logs.proofs.LostReadings.{records_are, unlawful_tells, stand_for_known, known_within, excess_tells, too_much_tells}
use Rattle.world_logs.proofs.lost.bound_world.Goals as goal

pub standings_of-requires-clause-in_range : goal.standings_of-requires-clause-in_range
standings_of-requires-clause-in_range c = λ s.
    subst (λ (ls : List (List Record)). AllByRecursion IsRecord (log_of ls s)) (sym (records_are c.args.logs.now)) (c.requires.in_range s)

pub returns-in_err-standings-clause-fault : goal.returns-in_err-standings-clause-fault
returns-in_err-standings-clause-fault c =
    let p = err_from_is_err_and c.from_residual.result c.from_residual.ensures.1 in
    let schema = c.args.schema.now in
    rw (p.1, p.2) (
    unlawful_tells schema (known_of c.args.logs.now) c.in_err-standings.field-0.0
    (subst (λ (ls : List (List Record)). TellsUnlawful schema ls c.in_err-standings.field-0.0) (records_are c.args.logs.now)
    c.in_err-standings.ensures.fault)
    )

pub first_excess-requires : goal.first_excess-requires
first_excess-requires c =
    let is = stand_for_known c.args.logs.now c.requires.count c.in_ok-standings.ensures.stand c.as_slice-all.ensures.value
    c.as_slice-lost.ensures.value c.in_ok-lost.ensures in
    record { of_logs = (known_records (known_of c.args.logs.now), is.stand) }

pub ranges_of-requires : goal.ranges_of-requires
ranges_of-requires c =
    let is = stand_for_known c.args.logs.now c.requires.count c.in_ok-standings.ensures.stand c.as_slice-all.ensures.value
    c.as_slice-lost.ensures.value c.in_ok-lost.ensures in
    record { of_known = (known_of c.args.logs.now, is) }

pub returns-in-Some-clause-fault : goal.returns-in-Some-clause-fault
returns-in-Some-clause-fault c =
    let is = stand_for_known c.args.logs.now c.requires.count c.in_ok-standings.ensures.stand c.as_slice-all.ensures.value
    c.as_slice-lost.ensures.value c.in_ok-lost.ensures in
    excess_tells is (c.in-Some.ensures.some (known_records (known_of c.args.logs.now)) is.stand)

pub returns : goal.returns
returns c =
    let schema = c.args.schema.now in
    let known = known_of c.args.logs.now in
    let is = stand_for_known c.args.logs.now c.requires.count c.in_ok-standings.ensures.stand c.as_slice-all.ensures.value
    c.as_slice-lost.ensures.value c.in_ok-lost.ensures in
    let within = known_within is (c.in-None.ensures.none (known_records known) is.stand) in
    record {
      lawful = IfOk-weaker c.ranges_of.result _ _ (λ ranges told. is.stand.lawful) c.ranges_of.ensures.ranges;
      within = IfOk-weaker c.ranges_of.result _ _ (λ ranges told. within) c.ranges_of.ensures.ranges;
      ranges = IfOk-weaker c.ranges_of.result _ _ (λ ranges told. told known is) c.ranges_of.ensures.ranges;
      fault = IfErr-weaker c.ranges_of.result _ _ (λ fault told. too_much_tells schema known fault within (told known is)) c.ranges_of.ensures.fault;
    }
