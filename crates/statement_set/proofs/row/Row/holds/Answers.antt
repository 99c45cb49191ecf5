use Rattle.std.proofs.Common.{◌∙◌, sym, subst, List, ℕ, Contains}
use Rattle.statement_set.proofs.Lists.{found_by_search}
use Rattle.statement_set.specs.Rows.{Rises}
use Rattle.statement_set.proofs.row.Row.holds.Goals as goal

pub returns : goal.returns
returns c =
    let items = c.deref.ensures.value in
    let both = found_by_search c.deref.result.now c.args.total c.binary_search.result
    (subst (λ (l : List ℕ). Rises l) (sym items) c.requires.rises) c.binary_search.ensures.position in (
      λ yes. subst (λ (l : List ℕ). Contains l c.args.total) items (both.0 (sym c.is_ok.ensures.value ∙ yes)),
      λ has. c.is_ok.ensures.value ∙ both.1 (subst (λ (l : List ℕ). Contains l c.args.total) (sym items) has),
    )
