use Rattle.std.proofs.Common.{◌++◌, ap, ◌∙◌, arith}
use Rattle.std.proofs.lemmas.Result.{on_ok_weaker}
use Rattle.line_serving.proofs.Lines.{grew, keep_part}
use Rattle.line_serving.proofs.serving.keep.Goals as goal

pub returns : goal.returns
returns c = λ part keeps.
    let kept = c.args.line.now.items in
    on_ok_weaker c.extend_from_slice.result
    (λ is. keep_part part kept c.args.bytes.now c.extend_from_slice.new.self.items c.min.result c.saturating_sub-room.result
    (omega (arith, c.min.ensures)) (omega (arith, c.saturating_sub-room.ensures, c.len.ensures, c.args.line.now.ok))
    (is ∙ ap (λ l. kept ++ l) c.front.ensures.bytes) keeps)
    (grew c.extend_from_slice.result kept c.front.result.now c.extend_from_slice.new.self.items c.extend_from_slice.ensures.items)
