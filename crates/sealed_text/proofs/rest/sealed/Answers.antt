use Rattle.std.proofs.Common.{List, ℕ, ◌++◌, ap, sym, ◌∙◌}
use Rattle.sealed_text.proofs.Cuts.{batch_clear, damaged_sum}
use Rattle.sealed_text.proofs.rest.sealed.Goals as goal

pub returns-in-None : goal.returns-in-None
returns-in-None c = record {
  rest = damaged_sum c.args.batch.now c.args.bytes.now (batch_clear c.args.batch.now c.requires.batch) c.requires.first
      (λ more is. c.in_default.ensures.rest more (is ∙ ap (λ (l : List ℕ). l ++ more) (sym c.sum_line-line.ensures.line)))
      (λ more is. c.in-None.ensures.rest more (c.sum_line-line.ensures.line ∙ is));
}
