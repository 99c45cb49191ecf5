use Rattle.std.proofs.Common.{◌∙◌, List, ap, sym, reverse, arith}
use Rattle.std.proofs.lemmas.List.{take_all, reverse-reverse}
use Rattle.field_bounds.specs.declared.id.TxnId.{TxnId}
use Rattle.reaching_steps.proofs.readers.open_at.Goals as goal

pub returns : goal.returns
returns c = record {
  found = c.loop-id.invariant ∙ take_all c.loop-id.id-index c.in_ok-open.open.now (omega (arith, c.loop-id-test.false))
      ∙ sym (reverse-reverse c.in_ok-open.open.now) ∙ ap (λ (l : List TxnId). reverse l) c.in_ok-open.ensures.value;
}
