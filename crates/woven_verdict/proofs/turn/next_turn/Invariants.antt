use Rattle.std.proofs.Common.{ℕ, ◌<◌, List}
use Rattle.field_bounds.specs.declared.entry.Entry.{Entry}
use Rattle.trace_weave.specs.Turn.{HoldsBack, IsReached}
use Rattle.woven_verdict.proofs.turn.next_turn.Given as goal

abbrev pub invariant-loop-site : goal.invariant-loop-site
invariant-loop-site g l =
    (hs : List (List Entry)) (counts : List ℕ) (trace : List Entry) → g.H.Histories.holds hs counts l.histories →
    IsReached hs counts l.issued trace l.from → (j : ℕ) → j < l.site → HoldsBack hs counts trace j
