use Rattle.std.proofs.Common.{◌∙◌, sym}
use Rattle.field_bounds.specs.Effects.{share}
use Rattle.reaching_steps.proofs.Growing.{on_ok}
use Rattle.reaching_steps.proofs.Reading.{puts_unsure, puts_nothing, puts_noted, unsure_never}
use Rattle.reaching_steps.proofs.site_effects.put_next.Goals as goal

pub returns-then-is_unsure : goal.returns-then-is_unsure
returns-then-is_unsure c = record {
  put = puts_unsure c.args.field.0 c.args.standing.now c.args.entry.now (sym c.is_unsure.ensures.value ∙ c.if-is_unsure.true);
}

pub returns-in-None : goal.returns-in-None
returns-in-None c = record {
  put = puts_nothing c.args.field.0 c.args.standing.now c.args.entry.now
      (λ base es. sym c.in-None.is ∙ c.effect_of.ensures.value (λ f k. share base f k es)
      (unsure_never _ (sym c.is_unsure.ensures.value ∙ c.if-is_unsure.false)));
}

pub returns-in-Some : goal.returns-in-Some
returns-in-Some c =
    let sure = sym c.is_unsure.ensures.value ∙ c.if-is_unsure.false in
    record {
      put = on_ok c.note.result _ _
          (λ notes. puts_noted c.args.field.0 c.args.standing.now c.note.new.standing c.args.entry.now c.in-Some.effect sure
          (λ base es. sym c.in-Some.is ∙ c.effect_of.ensures.value (λ f k. share base f k es) (unsure_never _ sure)) notes) c.note.ensures.noted;
    }
