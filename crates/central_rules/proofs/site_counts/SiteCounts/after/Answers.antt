use Rattle.std.proofs.Common.{ap, ℕ, if◌then◌else◌, arith}
use Rattle.field_bounds.specs.Owed.{is_begun_reply, is_still_down, is_unsure}
use Rattle.central_rules.proofs.Counts.{count_few}
use Rattle.central_rules.proofs.site_counts.SiteCounts.after.Goals as goal

pub returns-in-Unsure-clause-unsure : goal.returns-in-Unsure-clause-unsure
returns-in-Unsure-clause-unsure c = λ o few was. rw (c.in-Unsure.is)
    (omega (
      arith,
      few,
      was,
      c.saturating_add.ensures,
      count_few is_unsure o,
      ap {B = ℕ} (λ r. if is_unsure r then 1 else 0) (c.in-Unsure.is),
    ))

pub returns-in-StillDown-clause-still_down : goal.returns-in-StillDown-clause-still_down
returns-in-StillDown-clause-still_down c = λ o few was.
    rw (c.in-StillDown.is) (omega (
      arith,
      few,
      was,
      c.saturating_add-in-StillDown.ensures,
      count_few is_still_down o,
      ap {B = ℕ} (λ r. if is_still_down r then 1 else 0) (c.in-StillDown.is),
    ))

pub returns-in-Begun-clause-begun : goal.returns-in-Begun-clause-begun
returns-in-Begun-clause-begun c = λ o few was. rw (c.in-Begun.is)
    (omega (
      arith,
      few,
      was,
      c.saturating_add-in-Begun.ensures,
      count_few is_begun_reply o,
      ap {B = ℕ} (λ r. if is_begun_reply r then 1 else 0) (c.in-Begun.is),
    ))
