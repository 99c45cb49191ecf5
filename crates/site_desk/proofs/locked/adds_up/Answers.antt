use Rattle.std.proofs.Common.{arith, true≢false, sym}
use Rattle.site_desk.proofs.Sums.{calls_here, calls_so_far}
use Rattle.site_desk.proofs.locked.adds_up.Goals as goal

pub returns-then-count-left : goal.returns-then-count-left
returns-then-count-left g c =
    let e = calls_so_far c.args.passes.now c.loop-pass.pass-index c.pass-item.result c.loop-pass-test.true c.pass-item.is in
    let i = c.loop-pass.invariant in
    (λ none. absurd (true≢false (sym none)), λ all. absurd (omega arith))

pub loop-pass-preserved : goal.loop-pass-preserved
loop-pass-preserved g c =
    let e = calls_here c.args.passes.now c.loop-pass.pass-index c.pass-item.result c.loop-pass-test.true c.pass-item.is in
    let i = c.loop-pass.invariant in
    omega arith
