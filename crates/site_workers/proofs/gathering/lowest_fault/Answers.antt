use Rattle.std.proofs.Common.{sym, ap, ◌∙◌, Some}
use Rattle.work_faults.specs.declared.workers.WorkFault.{WorkFault}
use Rattle.site_workers.proofs.Answered.{first_fault, none_yet}
use Rattle.site_workers.proofs.gathering.lowest_fault.Goals as goal

pub returns-in-Err : goal.returns-in-Err
returns-in-Err c = record {
  value = ap (λ (w : WorkFault). Some w) c.fault.ensures.value ∙ sym (first_fault c.args.answers.now c.loop-answer.answer-index c.answer-item.result c.in-Err.fault c.loop-answer-test.true
      (sym c.answer-item.is ∙ c.in-Err.is) c.loop-answer.invariant);
}

pub loop-answer-preserved : goal.loop-answer-preserved
loop-answer-preserved c =
    none_yet c.args.answers.now c.loop-answer.answer-index c.answer-item.result c.in-Ok.field-0 c.loop-answer-test.true
    (sym c.answer-item.is ∙ c.in-Ok.is) c.loop-answer.invariant
