use Rattle.std.proofs.Common.{subst, List, ℕ, Option, ◌++◌}
use Rattle.std.specs.Option.{IfSome}
use Rattle.field_bounds.specs.declared.entry.Statement.{Statement}
use Rattle.statement_set.specs.declared.row.Channel.{Channel}
use Rattle.statement_set.specs.Keys.{statements_of}
use Rattle.statement_set.specs.Rows.{IsPutAmong, IsRowOf, TakesLittle, rows_told}
use Rattle.statement_set.proofs.Told.{front_put, where_true}
use Rattle.statement_set.proofs.set.StatementSet.put_in_row.Goals as goal

pub put-requires-clause-its : goal.put-requires-clause-its
put-requires-clause-its c =
    subst (λ (channel : Channel). IsRowOf c.row_for.new.self.rows.items channel c.in-Some.row) c.of.ensures
    (subst (λ (row : Option ℕ). IfSome row (IsRowOf c.row_for.new.self.rows.items c.of.result)) c.in-Some.is c.in_ok-row.ensures.made)

pub returns-in-Some-clause-there : goal.returns-in-Some-clause-there
returns-in-Some-clause-there c =
    where_true c.put.result (λ put.
    subst (λ (before : List Statement). IsPutAmong before (rows_told c.put.new.self.rows.items ++ statements_of c.self.inside.rest.keys) c.args.statement)
    c.self.view_is
    (front_put (statements_of c.self.inside.rest.keys) (rows_told c.self.inside.rows.rows.items) (rows_told c.put.new.self.rows.items) c.args.statement
    (subst (λ (before : List Statement). IsPutAmong before (rows_told c.put.new.self.rows.items) c.args.statement) c.row_for.ensures.told put)))
    c.put.ensures.there

pub invariant_of-self-in-Some : goal.invariant_of-self-in-Some
invariant_of-self-in-Some c = (
  c.put.ensures.filed,
  c.put.ensures.little _ (subst (λ (n : ℕ). TakesLittle c.row_for.new.self n) c.len.ensures.len c.row_for.ensures.little),
)
