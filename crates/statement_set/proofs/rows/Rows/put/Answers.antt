use Rattle.std.proofs.Common.{◌∙◌, ap, sym, subst, refl}
use Rattle.std.proofs.lemmas.Option.{get_or_from_slice_get}
use Rattle.std.proofs.lemmas.Result.{on_err_weaker}
use Rattle.statement_set.specs.declared.row.Row.{Row}
use Rattle.statement_set.specs.Rows.{Rises, IsPutIn}
use Rattle.statement_set.proofs.Told.{filed_put, row_put, row_same, where_true, where_false}
use Rattle.statement_set.proofs.rows.Rows.put.Goals as goal

pub put-requires : goal.put-requires
put-requires c =
    let is = c.index_mut.ensures.value ∙ get_or_from_slice_get c.args.self.now.rows.items c.args.row c.requires.its.0 c.index_mut.result.now c.requires.its.1 in
    record {
      rises = subst (λ (w : Row). Rises w.totals.items) (sym is) (c.requires.filed.rising c.args.row c.requires.its.0 c.requires.its.1);
    }

pub returns-clause-filed : goal.returns-clause-filed
returns-clause-filed c =
    let is = c.index_mut.ensures.value ∙ get_or_from_slice_get c.args.self.now.rows.items c.args.row c.requires.its.0 c.index_mut.result.now c.requires.its.1 in
    filed_put c.args.self.now _ c.requires.filed c.args.row c.requires.its.0 c.put.new.self c.requires.its.1
    (c.put.ensures.channel ∙ ap (λ (w : Row). w.channel) is) c.put.ensures.rises refl refl

pub returns-clause-there : goal.returns-clause-there
returns-clause-there c =
    let is = c.index_mut.ensures.value ∙ get_or_from_slice_get c.args.self.now.rows.items c.args.row c.requires.its.0 c.index_mut.result.now c.requires.its.1 in
    where_true c.put.result (λ put.
    row_put c.args.self.now.rows.items c.args.row c.requires.its.0 c.put.new.self c.args.statement c.requires.its.1
    (c.put.ensures.channel ∙ ap (λ (w : Row). w.channel) is) c.requires.its.2
    (subst (λ (w : Row). IsPutIn w.totals.items c.put.new.self.totals.items c.args.statement.total) is put)) c.put.ensures.there

pub returns-clause-not : goal.returns-clause-not
returns-clause-not c =
    let is = c.index_mut.ensures.value ∙ get_or_from_slice_get c.args.self.now.rows.items c.args.row c.requires.its.0 c.index_mut.result.now c.requires.its.1 in
    where_false c.put.result (λ same.
    row_same c.args.self.now.rows.items c.args.row c.requires.its.0 c.put.new.self c.requires.its.1
    (c.put.ensures.channel ∙ ap (λ (w : Row). w.channel) is) (same ∙ ap (λ (w : Row). w.totals.items) is)) c.put.ensures.not

pub returns-clause-err : goal.returns-clause-err
returns-clause-err c =
    let is = c.index_mut.ensures.value ∙ get_or_from_slice_get c.args.self.now.rows.items c.args.row c.requires.its.0 c.index_mut.result.now c.requires.its.1 in
    on_err_weaker c.put.result (λ same.
    row_same c.args.self.now.rows.items c.args.row c.requires.its.0 c.put.new.self c.requires.its.1
    (c.put.ensures.channel ∙ ap (λ (w : Row). w.channel) is) (same ∙ ap (λ (w : Row). w.totals.items) is)) c.put.ensures.err
