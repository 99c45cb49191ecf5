use Rattle.caller_keys.specs.Keys.{IsKey}
use Rattle.site_trace.specs.Reading.{TellsAnswer}
use Rattle.site_trace.proofs.KeyAnswers.{key_spaceless, none_in_front, tells_by, other_word}
use Rattle.site_trace.proofs.remark.tells_key.Goals as goal

pub returns-then-is_key : goal.returns-then-is_key
returns-then-is_key c = record {
  tells = tells_by IsKey TellsAnswer key_spaceless c.args.bytes.now c.in-Some.key.now c.in-Some.rest.now c.tells_answer.result
      c.in-Some.ensures.parts.0 c.in-Some.ensures.parts.1 c.if-is_key.ensures.key c.tells_answer.ensures.tells;
}

pub returns-else-is_key : goal.returns-else-is_key
returns-else-is_key c = record {
  tells = other_word IsKey TellsAnswer key_spaceless c.args.bytes.now c.in-Some.key.now c.in-Some.rest.now c.is_key.result
      c.in-Some.ensures.parts.0 c.in-Some.ensures.parts.1 c.if-is_key.ensures.key c.if-is_key.false;
}

pub returns-in-None : goal.returns-in-None
returns-in-None c = record { tells = none_in_front IsKey TellsAnswer c.args.bytes.now c.in-None.ensures.parts }
