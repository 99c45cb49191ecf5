use Rattle.std.proofs.Common.{arith}
use Rattle.folder_tests.proofs.Standings.{stands_told}
use Rattle.folder_tests.proofs.of_held_logs.replays.replayed.Goals as goal

pub told-requires : goal.told-requires
told-requires c =
    let stands =
    (stands_told c.args.gone.now c.schema-schema.result.now 1 c.args.records.now c.in-Ok-Standing.field-0 c.in-Ok-Standing.standing c.in-Ok-Standing.length
    c.in-Ok-Standing.field-0-is c.in-Ok-Standing.ensures.whole c.in-Ok-Standing.ensures.behind).2 in
    record {
      stock = omega (arith, stands.for_.count, c.fields.ensures.value, c.if-fields-ne1.false);
      place = stands.for_.place 0 0 (record {
        other = λ same. absurd (omega (arith, same));
        site_in = omega (arith, c.sites.ensures.value, c.if-sites-ne2.false);
        field_in = omega (arith, c.fields.ensures.value, c.if-fields-ne1.false);
      });
    }
