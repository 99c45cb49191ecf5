use Rattle.std.proofs.Common.{◌≡◌, ◌<◌, ◌++◌, [], List, length, sym, subst, arith, vec_len, ℕ}
use Rattle.std.proofs.lemmas.Bool.{eqb-true}
use Rattle.std.proofs.lemmas.List.{nil_from_length}
use Rattle.std.proofs.lemmas.Result.{on_ok_weaker}
use Rattle.site_service.specs.Service.{HasAnswered}
use Rattle.line_serving.specs.Serving.{IsKeptOf}
use Rattle.line_serving.proofs.Lines.{answer_fresh, answer_kept}
use Rattle.line_serving.proofs.serving.answer_end.Goals as goal

pub returns-clause-ok : goal.returns-clause-ok
returns-clause-ok g c = λ part keeps.
    let old = c.args.service.now in
    let new = c.answer-2.new.self in
    answer_kept (part ++ c.args.end.now) c.keep.new.line.items old new (c.in_ok-keep.ensures part keeps)
    (subst (λ (l : List ℕ). HasAnswered l old new) c.as_slice.ensures.value c.in_ok-answer.ensures.ok)
    (λ other long more. c.in_ok-answer.ensures.long other (subst (λ (l : List ℕ). 256 < length l) (sym c.as_slice.ensures.value) long) more)

pub returns-then-is_empty-clause-ok : goal.returns-then-is_empty-clause-ok
returns-then-is_empty-clause-ok g c = λ part keeps.
    let zero : vec_len c.args.line.now ≡ 0 = eqb-true _ 0 (sym c.if-is_empty.ensures) in
    let none : c.args.line.now.items ≡ [] = nil_from_length c.args.line.now.items (omega (arith, zero, c.args.line.now.ok)) in
    on_ok_weaker c.answer.result
    (λ one. answer_fresh part c.args.end.now c.args.service.now c.answer.new.self (subst (IsKeptOf part) none keeps) one) c.answer.ensures.ok
