-- The schemas of the worked rows are within the limits.
use Rattle.std.proofs.Common.{ℕ, ◌≤◌, ℤ, pos, ◌≤ℤ◌, refl, arith}
use Rattle.std.specs.Prelude.{neg_ℤ}
use Rattle.std.proofs.lemmas.Int.{ints}
use Rattle.field_bounds.specs.Limits.{is_name, is_name_length, is_name_byte, is_used, max_quantity, max_sites, IsSchema}
use Rattle.field_bounds.specs.Worked.{divided_among, twins}

-- one field whose bounds are in order, within the limits, makes a schema
pub divided_is_schema : (sites : ℕ) (floor ceiling value : ℤ) → 1 ≤ sites → sites ≤ max_sites → neg_ℤ (pos max_quantity) ≤ℤ floor
    → floor ≤ℤ value → value ≤ℤ ceiling → ceiling ≤ℤ pos max_quantity → IsSchema (divided_among sites floor ceiling value)
unfolding is_name is_name_length is_name_byte is_used
divided_is_schema sites floor ceiling value some few least low high most =
    record {
      some_site = some;
      few_sites = few;
      some_field = omega arith;
      few_fields = omega arith;
      each = (record { name = refl; least = least; floor = low; ceiling = high; most = most }, tt);
      own_names = (refl, tt);
    }

pub twins_is_schema : IsSchema twins
unfolding is_name is_name_length is_name_byte is_used
twins_is_schema =
    record {
      some_site = omega arith;
      few_sites = omega arith;
      some_field = omega arith;
      few_fields = omega arith;
      each = (
        record {
          name = refl;
          least = omega (arith, ints);
          floor = omega (arith, ints);
          ceiling = omega (arith, ints);
          most =
              omega (arith, ints);
        },
        (
          record {
            name = refl;
            least = omega (arith, ints);
            floor = omega (arith, ints);
            ceiling = omega (arith, ints);
            most =
                omega (arith, ints);
          },
          tt,
        ),
      );
      own_names = (refl, (refl, tt));
    }
