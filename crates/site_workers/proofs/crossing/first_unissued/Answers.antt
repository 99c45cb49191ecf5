use Rattle.std.proofs.Common.{true≢false, sym, ◌∙◌}
use Rattle.site_workers.proofs.Traffic.{accept_here}
use Rattle.site_workers.proofs.crossing.first_unissued.Goals as goal

pub returns-then-not-has_at-clause-some : goal.returns-then-not-has_at-clause-some
returns-then-not-has_at-clause-some c = (
  accept_here c.in-Accept.told c.args.history.now c.loop-entry.entry-index _ c.loop-entry-test.true c.in-Accept.is,
  λ has. absurd (true≢false (sym (c.has_at.ensures.1 has) ∙ c.if-not-has_at.true)),
)
