use Rattle.line_words.proofs.FrontLemmas.{text_cut, other_words, longer_words}
use Rattle.line_words.proofs.front.left_behind_text.Goals as goal

pub returns-then-not-begins_with : goal.returns-then-not-begins_with
returns-then-not-begins_with c = λ ws.
    other_words c.args.bytes.now c.args.text.now c.as_bytes.result.now ws c.as_bytes.ensures.value c.if-not-begins_with.ensures

pub returns-then-bytes-text-eq32 : goal.returns-then-bytes-text-eq32
returns-then-bytes-text-eq32 c =
    text_cut c.args.bytes.now c.args.text.now c.as_bytes.result.now c.as_bytes.ensures.value c.if-not-begins_with.ensures
    c.if-bytes-text.false c.if-bytes-text-eq32.true

pub returns : goal.returns
returns c = λ ws.
    longer_words c.args.bytes.now c.args.text.now c.as_bytes.result.now ws c.as_bytes.ensures.value c.if-not-begins_with.ensures
    c.if-bytes-text.false c.if-bytes-text-eq32.false
