use Rattle.std.proofs.Common.{arith, subst}
use Rattle.log_replay.specs.declared.log.Replayed.{Replayed}
use Rattle.log_replay.specs.Replayed.{TellsStanding}
use Rattle.log_tests.proofs.of_log_replay.replayed.Goals as goal

pub read_off-requires-clause-place : goal.read_off-requires-clause-place
read_off-requires-clause-place c =
    let stands = subst (λ (x : Replayed). TellsStanding c.in_ok-schema.schema 0 c.deref.result.now x) c.in-Ok-Standing.field-0-is
    c.in-Ok-Standing.ensures.standing in
    stands.1.for_.place 1 0
    (record {
      other = λ same. absurd (omega (arith, same));
      site_in = omega (arith, c.sites.ensures.value, c.if-sites-ne2.false);
      field_in = omega (arith, c.fields.ensures.value, c.if-fields-ne1.false);
    })
