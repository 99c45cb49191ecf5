use Rattle.site_trace.proofs.KeyAnswers.{answers_by}
use Rattle.site_trace.proofs.remark.is_key_answer.Goals as goal

pub returns-in-Some : goal.returns-in-Some
returns-in-Some c = record {
  key = answers_by c.args.line.now c.in-Some.rest.now c.tells_key.result c.in-Some.ensures.rest c.tells_key.ensures.tells;
}
