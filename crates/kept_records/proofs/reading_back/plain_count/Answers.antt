use Rattle.std.proofs.Common.{sym, ◌∙◌, refl}
use Rattle.kept_records.proofs.reading_back.plain_count.Goals as goal

pub returns-then-is_summary-clause-value : goal.returns-then-is_summary-clause-value
returns-then-is_summary-clause-value c = rw (sym c.is_summary.ensures.value ∙ c.if-is_summary.true) refl

pub returns-else-is_summary-clause-value : goal.returns-else-is_summary-clause-value
returns-else-is_summary-clause-value c = rw (sym c.is_summary.ensures.value ∙ c.if-is_summary.false) refl
