use Rattle.std.proofs.Common.{arith}
use Rattle.log_tests.proofs.of_log_bases.add_totals.Goals as goal

pub total-requires : goal.total-requires
total-requires c = record {
  place = c.requires.stands.3.for_.place c.args.other.0 c.loop-number.number (record {
    other = c.requires.stands.2;
    site_in = c.requires.site_in;
    field_in = omega (arith, c.loop-number-test.true, c.fields-number-end.ensures.value);
  });
}

pub total-requires-in-loop-number : goal.total-requires-in-loop-number
total-requires-in-loop-number c = record {
  place = c.requires.stands.3.for_.place c.args.other.0 c.loop-number.number (record {
    other = c.requires.stands.2;
    site_in = c.requires.site_in;
    field_in = omega (arith, c.loop-number-test.true, c.fields-number-end.ensures.value);
  });
}

pub accepted-requires : goal.accepted-requires
accepted-requires c = record {
  place = c.requires.stands.3.for_.place c.args.other.0 c.loop-number.number (record {
    other = c.requires.stands.2;
    site_in = c.requires.site_in;
    field_in = omega (arith, c.loop-number-test.true, c.fields-number-end.ensures.value);
  });
}

pub accepted-requires-in-loop-number : goal.accepted-requires-in-loop-number
accepted-requires-in-loop-number c = record {
  place = c.requires.stands.3.for_.place c.args.other.0 c.loop-number.number (record {
    other = c.requires.stands.2;
    site_in = c.requires.site_in;
    field_in = omega (arith, c.loop-number-test.true, c.fields-number-end.ensures.value);
  });
}
