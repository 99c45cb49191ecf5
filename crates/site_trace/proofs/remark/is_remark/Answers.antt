use Rattle.std.proofs.Common.{◌⊎◌}
use Rattle.site_trace.specs.Lines.{AnswersKey, AnswersBad, IsKeptAnswer}
use Rattle.site_trace.proofs.Sides.{second_of}
use Rattle.site_trace.proofs.remark.is_remark.Goals as goal

pub returns-else-is_kept_answer : goal.returns-else-is_kept_answer
returns-else-is_kept_answer c = record {
  remark = second_of c.is_key_or_bad_answer.result (IsKeptAnswer c.args.line.now) (AnswersKey c.args.line.now ⊎ AnswersBad c.args.line.now)
      c.if-is_kept_answer.ensures.kept c.is_key_or_bad_answer.ensures.either;
}
