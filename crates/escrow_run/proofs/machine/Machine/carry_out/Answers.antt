use Rattle.std.proofs.Common.{ℕ, List, ◌++◌, ap, ◌∙◌}
use Rattle.std.proofs.lemmas.Result.{on_ok_weaker, on_err_weaker}
use Rattle.entry_text.proofs.Fronts.{front_still_kept}
use Rattle.escrow_run.specs.Text.{line_text}
use Rattle.escrow_run.proofs.AnswerLemmas.{answered_many}
use Rattle.escrow_run.proofs.machine.Machine.carry_out.Goals as goal

pub returns-clause-ok : goal.returns-clause-ok
returns-clause-ok c =
    let front = c.in_ok-add_told.ensures.ok
    ∙ ap (λ (told : List ℕ). c.args.out.now.items ++ line_text (c.args.line.now ++ c.args.words.now ++ told)) c.format.ensures.text in
    on_ok_weaker c.take_all.result (λ took.
    answered_many c.args.line.now _ _ c.args.self.now.world _ _ _ _ c.requires.asks front took) c.take_all.ensures.ok

pub returns-clause-err : goal.returns-clause-err
returns-clause-err c =
    on_err_weaker c.take_all.result (front_still_kept c.args.out.now.items c.add_told.new.out.items _ _ c.in_ok-add_told.ensures.ok)
    c.take_all.ensures.err
