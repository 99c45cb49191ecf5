use Rattle.std.proofs.Common.{◌≡◌, ℕ, ◌<◌, ◌-◌, ◌^◌, min}
use Rattle.field_bounds.specs.declared.id.SiteNo.{SiteNo}
use Rattle.field_bounds.specs.Parts.{sum_below}
use Rattle.world_logs.proofs.site_sum.sum_over.Given as goal

-- what the term tells of the sites so far
abbrev pub invariant-loop-number : goal.invariant-loop-number
invariant-loop-number g l =
    (of : ℕ → ℕ) → ((s : SiteNo) (x : ℕ) → s.0 < l.sites → goal.F-post g l.term s x → x ≡ of s.0)
    → l.sum ≡ min (sum_below l.number of) (2 ^ 64 - 1)
