use Rattle.site_trace.specs.Lines.{AnswersKey, AnswersBad}
use Rattle.site_trace.proofs.Sides.{second_of}
use Rattle.site_trace.proofs.remark.is_key_or_bad_answer.Goals as goal

pub returns-else-is_key_answer : goal.returns-else-is_key_answer
returns-else-is_key_answer c = record {
  either = second_of c.is_bad_answer.result (AnswersKey c.args.line.now) (AnswersBad c.args.line.now) c.if-is_key_answer.ensures.key
      c.is_bad_answer.ensures.bad;
}
