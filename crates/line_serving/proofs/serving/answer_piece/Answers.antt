use Rattle.std.proofs.Common.{◌∷◌, length, ap, arith}
use Rattle.std.proofs.lemmas.List.{length-append}
use Rattle.std.proofs.lemmas.Result.{on_ok_weaker}
use Rattle.script_input.specs.Lines.{last_part_after}
use Rattle.line_serving.proofs.Lines.{done_none, done_more, done_all, keeps_same, keeps_on}
use Rattle.line_serving.proofs.serving.answer_piece.Goals as goal

pub lines-init : goal.lines-init
lines-init g c = record {
  done = λ part keeps. done_none part c.args.piece.now c.args.line.now.items c.args.service.now keeps;
  log = keeps_same c.args.service.now;
}

pub lines-preserved : goal.lines-preserved
lines-preserved g c = record {
  done = λ part keeps.
      let has = c.lines.invariant.done part keeps in
      done_more part c.args.piece.now c.lines.rest.now c.lines.line.items c.answer_end.new.line.items c.in-Some.end.now c.in-Some.behind.now
      c.args.service.now c.lines.service c.answer_end.new.service has c.in-Some.ensures.parts.1 c.in-Some.ensures.parts.0
      c.in_ok-answer_end.ensures.none (c.in_ok-answer_end.ensures.ok (last_part_after part has.done) has.keeps);
  log = keeps_on c.args.service.now c.lines.service c.answer_end.new.service c.lines.invariant.log c.in_ok-answer_end.ensures.log;
}

pub lines-smaller : goal.lines-smaller
lines-smaller g c = omega (
  arith,
  ap length c.in-Some.ensures.parts.1,
  length-append c.in-Some.end.now (10 ∷ c.in-Some.behind.now),
)

pub returns-clause-ok : goal.returns-clause-ok
returns-clause-ok g c = λ part keeps.
    let has = c.lines.invariant.done part keeps in
    on_ok_weaker c.keep.result
    (λ kept. done_all part c.args.piece.now c.lines.rest.now c.lines.line.items c.keep.new.line.items c.args.service.now c.lines.service has
    c.in_default.ensures.parts kept) (c.keep.ensures (last_part_after part has.done) has.keeps)

pub returns-clause-log : goal.returns-clause-log
returns-clause-log g c = c.lines.invariant.log

pub returns-in_err-answer_end-clause-log : goal.returns-in_err-answer_end-clause-log
returns-in_err-answer_end-clause-log g c =
    keeps_on c.args.service.now c.lines.service c.answer_end.new.service c.lines.invariant.log c.in_err-answer_end.ensures.log
