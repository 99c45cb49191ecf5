use Rattle.site_trace.specs.Lines.{IsTxn}
use Rattle.site_trace.specs.Reading.{TellsBehind}
use Rattle.site_trace.proofs.KeyAnswers.{txn_spaceless, none_in_front, tells_by, other_word}
use Rattle.site_trace.proofs.remark.tells_position.Goals as goal

pub returns-then-is_txn : goal.returns-then-is_txn
returns-then-is_txn c = record {
  tells = tells_by IsTxn TellsBehind txn_spaceless c.args.bytes.now c.in-Some.word.now c.in-Some.rest.now c.tells_behind.result
      c.in-Some.ensures.parts.0 c.in-Some.ensures.parts.1 c.if-is_txn.ensures.txn c.tells_behind.ensures.tells;
}

pub returns-else-is_txn : goal.returns-else-is_txn
returns-else-is_txn c = record {
  tells = other_word IsTxn TellsBehind txn_spaceless c.args.bytes.now c.in-Some.word.now c.in-Some.rest.now c.is_txn.result
      c.in-Some.ensures.parts.0 c.in-Some.ensures.parts.1 c.if-is_txn.ensures.txn c.if-is_txn.false;
}

pub returns-in-None : goal.returns-in-None
returns-in-None c = record { tells = none_in_front IsTxn TellsBehind c.args.bytes.now c.in-None.ensures.parts }
