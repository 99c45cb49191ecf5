use Rattle.std.proofs.Common.{◌≡◌, ◌∙◌, ◌++◌, subst, List, Bool}
use Rattle.std.specs.Bool.{OnFalse}
use Rattle.std.proofs.lemmas.Result.{on_ok_weaker}
use Rattle.field_bounds.specs.declared.entry.Statement.{Statement}
use Rattle.statement_set.proofs.Told.{behind_put}
use Rattle.statement_set.specs.Keys.{statements_of}
use Rattle.statement_set.specs.Rows.{IsPutAmong, rows_told}
use Rattle.statement_set.proofs.set.StatementSet.insert.Goals as goal

pub returns-clause-ok : goal.returns-clause-ok
returns-clause-ok c =
    let same = subst (λ (there : Bool). OnFalse there (c.put_in_row.new.self ≡ c.args.self.now)) c.if-branch.false c.in_ok-put_in_row.ensures.not in
    let front = rows_told c.self.inside.rows.rows.items in
    let behind = statements_of c.put_among.new.rest.keys in
    on_ok_weaker c.put_among.result (λ put.
    subst (λ (before : List Statement). IsPutAmong before (front ++ behind) c.args.statement) (c.self.view_is ∙ same)
    (behind_put front (statements_of c.self.inside.rest.keys) behind c.args.statement put)) c.put_among.ensures.ok
