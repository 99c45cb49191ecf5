use Rattle.std.proofs.Common.{◌↔◌, subst, IsTrue, Contains, List, inl, inr}
use Rattle.std.proofs.lemmas.List.Elements.{Contains-append_right, Contains-append_cases}
use Rattle.field_bounds.specs.declared.entry.Statement.{Statement}
use Rattle.statement_set.specs.Keys.{statements_of}
use Rattle.statement_set.specs.Rows.{rows_told}
use Rattle.statement_set.proofs.set.StatementSet.has.Goals as goal

pub returns-else-has : goal.returns-else-has
returns-else-has c =
    let front = rows_told c.self.inside.rows.rows.items in
    let behind = statements_of c.self.inside.rest.keys in
    record {
      value =
          subst (λ (told : List Statement). IsTrue c.is_among.result ↔ Contains told c.args.statement) c.self.view_is (
            λ yes. Contains-append_right front behind c.args.statement (c.is_among.ensures.0 yes),
            λ has.
                elim (Contains-append_cases front behind c.args.statement has) [
                  | inl first ↦ let yes = c.has.ensures.1 first in absurd cc
                  | inr later ↦ c.is_among.ensures.1 later
                ],
          );
    }
