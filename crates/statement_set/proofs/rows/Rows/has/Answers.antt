use Rattle.std.proofs.Common.{◌∙◌, sym, subst, Contains}
use Rattle.std.proofs.lemmas.Option.{get_or_from_slice_get}
use Rattle.statement_set.specs.declared.row.Row.{Row}
use Rattle.statement_set.specs.declared.row.Channel.{Channel}
use Rattle.statement_set.specs.Rows.{Rises, IsOfNone}
use Rattle.statement_set.proofs.Told.{told_by_rows, told_by_its_row, told_by_none}
use Rattle.statement_set.proofs.rows.Rows.has.Goals as goal

pub has-requires : goal.has-requires
has-requires c =
    let found = c.in-Some.ensures.found in
    let is = c.index.ensures ∙ get_or_from_slice_get c.args.self.now.rows.items c.in-Some.row found.0 c.index.result.now found.1 in
    record { rises = subst (λ (w : Row). Rises w.totals.items) (sym is) (c.requires.filed.rising c.in-Some.row found.0 found.1) }

pub returns-in-Some : goal.returns-in-Some
returns-in-Some c =
    let found = c.in-Some.ensures.found in
    let is = c.index.ensures ∙ get_or_from_slice_get c.args.self.now.rows.items c.in-Some.row found.0 c.index.result.now found.1 in
    let its = found.2 ∙ c.of.ensures in (
      λ yes.
          told_by_rows c.args.self.now.rows.items c.args.statement c.in-Some.row found.0 found.1 its
          (subst (λ (w : Row). Contains w.totals.items c.args.statement.total) is (c.has.ensures.0 yes)),
      λ has.
          c.has.ensures.1 (subst (λ (w : Row). Contains w.totals.items c.args.statement.total) (sym is)
          (told_by_its_row c.args.self.now c.requires.filed c.args.statement c.in-Some.row found.0 found.1 its has)),
    )

pub returns-in-None : goal.returns-in-None
returns-in-None c = (
  λ no. cc,
  λ has.
      absurd (told_by_none c.args.self.now.rows.items c.args.statement
      (subst (λ (channel : Channel). IsOfNone c.args.self.now.rows.items channel) c.of.ensures c.in-None.ensures.none) has),
)
