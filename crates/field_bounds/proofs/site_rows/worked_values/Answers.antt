use Rattle.std.proofs.Common.{arith}
use Rattle.std.proofs.lemmas.Int.{ints}
use Rattle.field_bounds.proofs.Rows.{divided_is_schema}
use Rattle.field_bounds.proofs.site_rows.worked_values.Goals as goal

pub returns-clause-schemas : goal.returns-clause-schemas
returns-clause-schemas c = (
  divided_is_schema _ _ _ _ (omega arith) (omega arith) (omega (arith, ints)) (omega (arith, ints)) (omega (arith, ints))
      (omega (arith, ints)),
  divided_is_schema _ _ _ _ (omega arith) (omega arith) (omega (arith, ints)) (omega (arith, ints)) (omega (arith, ints))
      (omega (arith, ints)),
  divided_is_schema _ _ _ _ (omega arith) (omega arith) (omega (arith, ints)) (omega (arith, ints)) (omega (arith, ints))
      (omega (arith, ints)),
)
