-- The trace of a world is sound, and what follows from that.
use Rattle.std.proofs.Common.{◌≡◌, ℕ, ◌<◌, false, List, [], ◌∷◌, refl, subst, arith, Option, Some, None}
use Rattle.std.proofs.lemmas.Int.{ints}
use Rattle.std.proofs.lemmas.Option.{same_Some}
use Rattle.field_bounds.specs.declared.id.SiteNo.{SiteNo}
use Rattle.field_bounds.specs.declared.kind.Kind.TheVariants.{Lower, Raise}
use Rattle.field_bounds.specs.declared.entry.Statement.{Statement}
use Rattle.field_bounds.specs.declared.entry.Command.{Command}
use Rattle.field_bounds.specs.declared.entry.Command.TheVariants.{Accept}
use Rattle.field_bounds.specs.declared.entry.Reply.{Reply}
use Rattle.field_bounds.specs.declared.entry.Reply.TheVariants.{Accepted, Unsure}
use Rattle.field_bounds.specs.declared.entry.Entry.{Entry}
use Rattle.field_bounds.specs.Schema.{SchemaValue}
use Rattle.field_bounds.specs.Limits.{IsSchema}
use Rattle.field_bounds.specs.Effects.{fresh}
use Rattle.field_bounds.specs.Owed.{place, Fits}
use Rattle.field_bounds.specs.Statements.{IsIssued}
use Rattle.field_bounds.specs.Central.{own, StatementRule, IsSound}
use Rattle.field_bounds.proofs.Traces.{sound_front}
use Rattle.field_bounds.proofs.Headline.{within_bounds, outcomes_are_bounded}
use Rattle.field_bounds.proofs.Ledgers.{cuts_grow}
use Rattle.field_bounds.proofs.Sound.{sound_empty, sound_more}
use Rattle.field_bounds.specs.Shape.{is_accept}
use Rattle.kept_state.specs.declared.luck.Luck.{Luck}
use Rattle.kept_state.specs.Luck.{Lucky, entries, own_lucky, lucky_reply}
use Rattle.kept_state.proofs.Lucky.{lucky_fits, own_entries}
use Rattle.world_steps.specs.declared.step.WorldStep.{WorldStep}
use Rattle.world_steps.specs.declared.step.WorldStep.TheVariants.{Do, Deliver}
use Rattle.world_steps.specs.World.{statements_issued, statement_at, delivery_of, question_of, luck_of, StepFits, with_entry, world_of}
use Rattle.world_steps.specs.Promises.{IsBoundedThroughout, OutcomesAreBoundedThroughout, BoundsOnlyTighten, NoneStrange}
use Rattle.world_steps.proofs.Issued.{issued_to, numbered_is_issued}
use Rattle.world_steps.proofs.Strange.{familiar_step}

-- each step fits; steps have the newest first
abbrev pub StepsFit : SchemaValue → List WorldStep → Type 0
StepsFit schema [] = Unit {0}
StepsFit schema (step ∷ earlier) = StepsFit schema earlier × StepFits schema step

-- ---- a step asks a site of the schema, and has a statement to answer for only where one was issued

rule_of_plain : (t : List Entry) (c : Command) (r : Reply) → is_accept c ≡ false → StatementRule t c r
rule_of_plain t (Accept told) (Accepted gain) h = cc
rule_of_plain t (Accept told) Unsure h = cc
rule_of_plain t c r h = tt

rule_of_issued : (t : List Entry) (told : Statement) (r : Reply) → IsIssued told t → StatementRule t (Accept told) r
rule_of_issued t told (Accepted gain) h = h
rule_of_issued t told Unsure h = h
rule_of_issued t told r h = tt

abbrev Allows : SchemaValue → List Entry → SiteNo × Command → Reply → Type 0
Allows schema front who r = (who.0.0 < schema.sites) × StatementRule front who.1 r

delivery_allows : (schema : SchemaValue) (front : List Entry) → IsSound schema front
    → (who : SiteNo × Command) (r : Reply) (found : Option Statement)
    → ((x : Statement) → found ≡ Some x → IsIssued x front) → delivery_of found ≡ Some who → Allows schema front who r
delivery_allows schema front sound who r None is h = cc
delivery_allows schema front sound who r (Some told) is h =
    let now = is told refl in
    subst (λ (w : SiteNo × Command). Allows schema front w r) (same_Some (told.to, Accept told) who h)
    (issued_to schema front sound told now, rule_of_issued front told r now)

pub step_allows : (schema : SchemaValue) (front : List Entry) → IsSound schema front → (step : WorldStep) → StepFits schema step
    → (who : SiteNo × Command) (r : Reply) → question_of front step ≡ Some who → Allows schema front who r
step_allows schema front sound (Do site command luck) fit who r h =
    subst (λ (w : SiteNo × Command). Allows schema front w r) (same_Some (site, command) who h) (fit.0, rule_of_plain front command r fit.1)
step_allows schema front sound (Deliver k luck) fit who r h =
    delivery_allows schema front sound who r (statement_at k (statements_issued front)) (λ x is. numbered_is_issued k front x is) h

-- ---- the one reply is owed after the site's own part of the trace

lucky_is_owed : (schema : SchemaValue) (s : ℕ) (past : List Lucky) (c : Command) (luck : Luck)
    → Fits (place schema s (fresh schema s) (own s (entries past))) c (lucky_reply schema s (fresh schema s) (own_lucky s past) c luck)
lucky_is_owed schema s past c luck =
    subst (λ (o : List Entry). Fits (place schema s (fresh schema s) o) c (lucky_reply schema s (fresh schema s) (own_lucky s past) c luck))
    (own_entries s past)
    (lucky_fits schema s (fresh schema s) (own_lucky s past) c luck)

-- ---- so every trace is sound

module _ (schema : SchemaValue) where
  sound_step : (past : List Lucky) → IsSound schema (entries past) → (step : WorldStep) → StepFits schema step
      → (found : Option (SiteNo × Command)) → question_of (entries past) step ≡ found
      → IsSound schema (entries (with_entry schema found (luck_of step) past))
  sound_step past sound step fit None is = sound
  sound_step past sound step fit (Some who) is =
      let s : ℕ = who.0.0 in
      let made : Entry = record {
        site = who.0;
        command = who.1;
        reply =
            lucky_reply schema s (fresh schema s) (own_lucky s past) who.1 (luck_of step);
      } in
      let allows = step_allows schema (entries past) sound step fit who made.reply is in
      sound_more schema made (entries past) sound allows.0 allows.1 (lucky_is_owed schema s past who.1 (luck_of step))

  pub world_is_sound : (steps : List WorldStep) → StepsFit schema steps → IsSound schema (entries (world_of schema steps))
  world_is_sound [] fit = sound_empty schema
  world_is_sound (step ∷ earlier) fit =
      let past : List Lucky = world_of schema earlier in
      sound_step past (world_is_sound earlier fit.0) step fit.1 (question_of (entries past) step) refl

  -- in every front the fields are within their bounds
  pub bounded_throughout : IsSchema schema → (t : List Entry) → IsSound schema t → IsBoundedThroughout schema t
  bounded_throughout good [] sound = λ f. within_bounds schema good [] sound f
  bounded_throughout good (e ∷ t) sound =
      (bounded_throughout good t (sound_front schema e t sound), λ f. within_bounds schema good (e ∷ t) sound f)

  -- and so are the values that the open transactions leave, however they end
  pub outcomes_throughout : IsSchema schema → (t : List Entry) → IsSound schema t → OutcomesAreBoundedThroughout schema t
  outcomes_throughout good [] sound = outcomes_are_bounded schema good [] sound
  outcomes_throughout good (e ∷ t) sound =
      (outcomes_throughout good t (sound_front schema e t sound), outcomes_are_bounded schema good (e ∷ t) sound)

  -- and no bound is loosened from one front to the next
  pub only_tighten : (t : List Entry) → BoundsOnlyTighten schema t
  only_tighten [] = tt
  only_tighten (e ∷ t) = (
    only_tighten t,
    λ f. (
      omega (arith, ints, cuts_grow schema (e ∷ []) t f Lower),
      omega (arith, ints, cuts_grow schema (e ∷ []) t f Raise),
    ),
  )

  strange_more : IsSchema schema → (past : List Lucky) → IsSound schema (entries past) → NoneStrange (entries past) → (step : WorldStep)
      → StepFits schema step
      → (found : Option (SiteNo × Command)) → question_of (entries past) step ≡ found
      → NoneStrange (entries (with_entry schema found (luck_of step) past))
  strange_more good past sound none step fit None is = none
  strange_more good past sound none step fit (Some who) is =
      let s : ℕ = who.0.0 in (
        none,
        familiar_step schema good (entries past) sound step fit who is
            (lucky_reply schema s (fresh schema s) (own_lucky s past) who.1 (luck_of step))
            (lucky_is_owed schema s past who.1 (luck_of step)),
      )

  -- and no statement is refused as another site's, or as forged
  pub none_strange : IsSchema schema → (steps : List WorldStep) → StepsFit schema steps → NoneStrange (entries (world_of schema steps))
  none_strange good [] fit = tt
  none_strange good (step ∷ earlier) fit =
      let past : List Lucky = world_of schema earlier in
      strange_more good past (world_is_sound earlier fit.0) (none_strange good earlier fit.0) step fit.1
      (question_of (entries past) step) refl
