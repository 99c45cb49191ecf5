use Rattle.std.proofs.Common.{◌≡◌, ℕ, ◌<◌, List, None}
use Rattle.field_bounds.specs.declared.entry.Entry.{Entry}
use Rattle.trace_weave.specs.Turn.{upcoming}
use Rattle.woven_verdict.proofs.turn.first_left.Given as goal

abbrev pub invariant-loop-site : goal.invariant-loop-site
invariant-loop-site g l =
    (hs : List (List Entry)) (counts : List ℕ) → g.H.Histories.holds hs counts l.histories →
    (j : ℕ) → j < l.site → upcoming hs counts j ≡ None
