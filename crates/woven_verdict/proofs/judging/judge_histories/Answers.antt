use Rattle.std.proofs.Common.{reverse}
use Rattle.woven_verdict.proofs.Placed.{begins_at, goes_at, told_for, fault_for}
use Rattle.woven_verdict.proofs.judging.judge_histories.Goals as goal

pub turns-init : goal.turns-init
turns-init g c = λ hs holds.
    begins_at _ c.args.schema.now hs _ _ holds c.in_ok-judged.ensures.none c.new-issued.ensures.none

pub returns-in_default-clause-verdict : goal.returns-in_default-clause-verdict
returns-in_default-clause-verdict g c =
    told_for c.end.result _ _
    (λ told tells hs holds.
    let at = c.turns.invariant hs holds in
    tells c.args.schema.now hs at.counts at.trace at.holds at.placed)
    c.end.ensures.verdict

pub returns-in_default-clause-stuck : goal.returns-in_default-clause-stuck
returns-in_default-clause-stuck g c =
    fault_for c.end.result _ _
    (λ fault tells hs holds.
    let at = c.turns.invariant hs holds in
    tells c.args.schema.now hs at.counts at.trace at.holds at.placed
    (c.in_default.ensures.none hs at.counts (reverse at.trace) at.holds at.reached))
    c.end.ensures.stuck

pub turns-preserved : goal.turns-preserved
turns-preserved g c = λ hs holds.
    let at = c.turns.invariant hs holds in
    goes_at _ _ c.args.schema.now hs _ _ _ _ c.in-Some.site c.turns.from _ c.in-Some.entry at
    (c.in-Some.ensures.some hs at.counts (reverse at.trace) at.holds at.reached)
    (λ counts entry has next. c.in_ok-take.ensures.taken hs counts entry has next)
    c.in_ok-take_in.ensures.taken c.in_ok-insert_issued.ensures.ok c.next_look-from.ensures
