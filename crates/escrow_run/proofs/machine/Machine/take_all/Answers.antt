use Rattle.std.proofs.Common.{refl, rules}
use Rattle.entry_text.proofs.Fronts.{front_still_kept}
use Rattle.escrow_run.proofs.AnswerLemmas.{took_next}
use Rattle.escrow_run.proofs.machine.Machine.take_all.Goals as goal

pub loop-step-preserved : goal.loop-step-preserved
loop-step-preserved c =
    took_next c.args.steps.now c.loop-step.step-index _ _ _ _ _ _ _ _ c.loop-step-test.true refl c.loop-step.invariant
    c.in_ok-take.ensures.ok

pub returns-in_err-take-clause-err : goal.returns-in_err-take-clause-err
returns-in_err-take-clause-err c =
    let kept = front_still_kept c.args.out.now.items c.loop-step.out.items c.loop-step.invariant.replies c.take.new.out.items
    c.loop-step.invariant.written c.in_err-take.ensures.err in
    search (rules, kept)
