use Rattle.std.proofs.Common.{◌∙◌, sym}
use Rattle.field_bounds.specs.Effects.{fresh, share, doubt_kept_in}
use Rattle.reaching_steps.proofs.Growing.{on_ok}
use Rattle.reaching_steps.proofs.Reading.{own_uncounted, own_elsewhere, own_nothing, own_noted}
use Rattle.reaching_steps.proofs.site_effects.read_own.Goals as goal

pub returns-then-not-counts : goal.returns-then-not-counts
returns-then-not-counts c = record {
  read = own_uncounted c.args.schema.now c.args.site.0 c.args.field.0 c.args.standing.now c.args.entry.now
      (doubt_kept_in c.args.site.0 c.args.later.now) (sym c.counts.ensures.value ∙ c.if-not-counts.true);
}

pub returns-then-is_spared_elsewhere : goal.returns-then-is_spared_elsewhere
returns-then-is_spared_elsewhere c =
    let is = c.is_spared_elsewhere.ensures.spared c.if-is_spared_elsewhere.true in
    record {
      read = own_elsewhere c.args.schema.now c.args.site.0 c.args.field.0 c.args.standing.now c.args.entry.now
          (doubt_kept_in c.args.site.0 c.args.later.now) is.0 is.1;
    }

pub returns-in-None : goal.returns-in-None
returns-in-None c = record {
  read = own_nothing c.args.schema.now c.args.site.0 c.args.field.0 c.args.standing.now c.args.entry.now
      (doubt_kept_in c.args.site.0 c.args.later.now)
      (λ es lawful was. sym c.in-None.is ∙ c.effect_of.ensures.value (λ f k. share (fresh c.args.schema.now c.args.site.0) f k es)
      (λ unsure. c.spared_in_doubt-amount.ensures.value es lawful was unsure
      (c.is_spared_elsewhere.ensures.other c.if-is_spared_elsewhere.false unsure)));
}

pub returns-in-Some : goal.returns-in-Some
returns-in-Some c =
    record {
      read = on_ok c.note.result _ _
          (λ notes. own_noted c.args.schema.now c.args.site.0 c.args.field.0 c.args.standing.now c.note.new.standing c.args.entry.now
          (doubt_kept_in c.args.site.0 c.args.later.now) c.in-Some.effect (sym c.counts.ensures.value ∙ c.if-not-counts.false)
          (λ es lawful was. sym c.in-Some.is ∙ c.effect_of.ensures.value (λ f k. share (fresh c.args.schema.now c.args.site.0) f k es)
          (λ unsure. c.spared_in_doubt-amount.ensures.value es lawful was unsure
          (c.is_spared_elsewhere.ensures.other c.if-is_spared_elsewhere.false unsure))) notes) c.note.ensures.noted;
    }
