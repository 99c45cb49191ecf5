use Rattle.std.proofs.Common.{ℕ, List, reverse}
use Rattle.field_bounds.specs.declared.entry.Entry.{Entry}
use Rattle.trace_weave.specs.Turn.{IsReached}
use Rattle.woven_verdict.specs.Woven.{none_taken, IsPlaced}
use Rattle.woven_verdict.proofs.Placed.{IsAt}
use Rattle.woven_verdict.proofs.judging.judge_histories.Given as goal

abbrev pub invariant-turns : goal.invariant-turns
invariant-turns g l =
    (hs : List (List Entry)) → g.H.Histories.holds hs (none_taken hs) l.fn.histories
    → IsAt (λ counts. g.H.Histories.holds hs counts l.histories) l.schema hs l.judged l.issued l.from
