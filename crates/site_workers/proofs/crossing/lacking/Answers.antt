use Rattle.std.proofs.Common.{true≢false, sym, ◌∙◌}
use Rattle.site_workers.proofs.Lowest.{told_has, told_lacks}
use Rattle.site_workers.proofs.crossing.lacking.Goals as goal

pub returns-then-has_at : goal.returns-then-has_at
returns-then-has_at c = told_has _ _ c.in-Some.told (sym c.statement_of.ensures.value ∙ c.in-Some.is) (c.has_at.ensures.0 c.if-has_at.true)

pub returns : goal.returns
returns c = told_lacks _ _ c.in-Some.told (sym c.statement_of.ensures.value ∙ c.in-Some.is)
    (λ has. absurd (true≢false (sym (c.has_at.ensures.1 has) ∙ c.if-has_at.false)))
