-- In a world no statement is refused as another site's, or as forged.
use Rattle.std.proofs.Common.{◌≡◌, ◌≤◌, Bool, true, false, not, List, [], ◌∷◌, refl, sym, ◌∙◌, ap, subst, inl, inr, arith, eqb, Option, Some, None}
use Rattle.std.proofs.lemmas.Bool.{eq-eqb, ltb-true, cases_Bool}
use Rattle.std.specs.Prelude.{◌⊎◌, if◌then◌else◌}
use Rattle.std.proofs.lemmas.Option.{same_Some}
use Rattle.field_bounds.specs.declared.id.SiteNo.{SiteNo}
use Rattle.field_bounds.specs.declared.entry.Statement.{Statement}
use Rattle.field_bounds.specs.declared.entry.Command.{Command}
use Rattle.field_bounds.specs.declared.entry.Command.TheVariants.{Begin, Accept, Restart}
use Rattle.field_bounds.specs.declared.entry.Reply.{Reply}
use Rattle.field_bounds.specs.declared.entry.Reply.TheVariants.{Refused}
use Rattle.field_bounds.specs.declared.entry.Refusal.{Refusal}
use Rattle.field_bounds.specs.declared.entry.Refusal.TheVariants.{NotYours, Forged}
use Rattle.field_bounds.specs.declared.entry.Entry.{Entry}
use Rattle.field_bounds.specs.Schema.{SchemaValue}
use Rattle.field_bounds.specs.Limits.{IsSchema}
use Rattle.field_bounds.specs.Effects.{fresh}
use Rattle.field_bounds.specs.Owed.{Place, Test, place, first, refusals, answer, gain_of, room, Fits, AnswerFits}
use Rattle.field_bounds.specs.Statements.{IsIssued}
use Rattle.field_bounds.specs.Central.{own, IsSound}
use Rattle.field_bounds.proofs.Refused.{match_cases, is_refused}
use Rattle.field_bounds.specs.Shape.{is_accept}
use Rattle.world_steps.specs.declared.step.WorldStep.{WorldStep}
use Rattle.world_steps.specs.declared.step.WorldStep.TheVariants.{Do, Deliver}
use Rattle.world_steps.specs.World.{statements_issued, statement_at, delivery_of, question_of, StepFits}
use Rattle.world_steps.specs.Promises.{is_strange, IsFamiliar}
use Rattle.world_steps.proofs.Issued.{numbered_is_issued}
use Rattle.world_steps.proofs.Forged.{never_forged}

-- ---- such a refusal comes from a test for it

abbrev strange_here : Bool → Refusal → Type 0 → Type 0
strange_here b NotYours rest = (b ≡ true) ⊎ rest
strange_here b (Forged room) rest = (b ≡ true) ⊎ rest
strange_here b r rest = rest

abbrev StrangeHolds : List Test → Type 0
StrangeHolds [] = ⊥
StrangeHolds (test ∷ rest) = strange_here test.0 test.1 (StrangeHolds rest)

strange_step : (b : Bool) (r x : Refusal) (rest : List Test) → (if b then Some r else first rest) ≡ Some x → is_strange x ≡ true
    → (first rest ≡ Some x → StrangeHolds rest) → strange_here b r (StrangeHolds rest)
strange_step true NotYours x rest h strange more = inl refl
strange_step true (Forged room) x rest h strange more = inl refl
strange_step false NotYours x rest h strange more = inr (more h)
strange_step false (Forged room) x rest h strange more = inr (more h)
strange_step true r x rest h strange more = cc
strange_step false r x rest h strange more = more h

strange_holds : (tests : List Test) (x : Refusal) → first tests ≡ Some x → is_strange x ≡ true → StrangeHolds tests
strange_holds [] x h strange = cc
strange_holds (test ∷ rest) x h strange = strange_step test.0 test.1 x rest h strange (λ later. strange_holds rest x later strange)

refused_same : (x y : Refusal) → Refused x ≡ Refused y → x ≡ y
refused_same x y e = cc

answer_is_no_refusal : (at : Place) (c : Command) → is_refused (answer at c) ≡ false
answer_is_no_refusal at Begin = refl
answer_is_no_refusal at c = refl

strange_fits : (at : Place) (c : Command) (x : Refusal) → AnswerFits at c (Refused x) → is_strange x ≡ true → StrangeHolds (refusals at c)
strange_fits at c x fits strange =
    elim (match_cases (first (refusals at c)) _ _ fits) [
      | inl refused ↦ strange_holds (refusals at c) x (refused.1 ∙ ap Some (sym (refused_same x refused.0 refused.2))) strange
      | inr met ↦ elim met.1 [
        | inl same ↦ let is : is_refused (answer at c) ≡ true = ap is_refused (sym same) in let none = answer_is_no_refusal at c in cc
        | inr unsure ↦ cc (unsure.0)
      ]
    ]

-- ---- no command has such a test that holds

-- one that takes in no statement has none
familiar_plain : (at : Place) (c : Command) (x : Refusal) → is_accept c ≡ false → Fits at c (Refused x) → is_strange x ≡ true → ⊥
familiar_plain at (Accept told) x plain fits strange = cc
familiar_plain at Restart x plain fits strange = let numbers = fits.0 in cc
familiar_plain at c x plain fits strange = strange_fits at c x fits strange

-- one that takes in a statement for its site, within the room, meets none
familiar_accept : (at : Place) (told : Statement) (x : Refusal) → told.to.0 ≡ at.site
    → gain_of at told.from told.field told.kind told.total ≤ room at told.field → Fits at (Accept told) (Refused x) → is_strange x ≡ true
    → ⊥
familiar_accept at told x mine within fits strange =
    elim (strange_fits at (Accept told) x fits strange) [
      | inl not_mine ↦ let same = eq-eqb told.to.0 at.site mine in let mine_so : not (eqb told.to.0 at.site) ≡ false = ap not same in
          cc (not_mine)
      | inr more ↦ elim more [
        | inl above ↦ let greater = ltb-true _ _ above in absurd (omega (arith, greater, within))
        | inr nothing ↦ nothing
      ]
    ]

familiar : (r : Reply) → ((x : Refusal) → r ≡ Refused x → is_strange x ≡ true → ⊥) → IsFamiliar r
familiar (Refused x) h = elim (cases_Bool (is_strange x)) as (λ _. is_strange x ≡ false)
    [ inl strange ↦ absurd (h x refl strange) | inr isnt ↦ isnt ]
familiar r h = tt

module _ (schema : SchemaValue) (good : IsSchema schema) (front : List Entry) (sound : IsSound schema front) where
  -- the statement of a delivery was issued
  delivers : (who : SiteNo × Command) (found : Option Statement) → ((x : Statement) → found ≡ Some x → IsIssued x front)
      → delivery_of found ≡ Some who
      → (told : Statement) × (who ≡ (told.to, Accept told)) × IsIssued told front
  delivers who None is h = cc
  delivers who (Some told) is h = (told, sym (same_Some (told.to, Accept told) who h), is told refl)

  never_strange : (step : WorldStep) → StepFits schema step → (who : SiteNo × Command) → question_of front step ≡ Some who → (x : Refusal)
      → Fits (place schema who.0.0 (fresh schema who.0.0) (own who.0.0 front)) who.1 (Refused x) → is_strange x ≡ true → ⊥
  never_strange (Do site command luck) fit who h x fits strange =
      let who_is = same_Some (site, command) who h in
      let plain : is_accept who.1 ≡ false = subst (λ (w : SiteNo × Command). is_accept w.1 ≡ false) who_is fit.1 in
      familiar_plain (place schema who.0.0 (fresh schema who.0.0) (own who.0.0 front)) who.1 x plain fits strange
  never_strange (Deliver k luck) fit who h x fits strange =
      let found = delivers who (statement_at k (statements_issued front)) (λ y is. numbered_is_issued k front y is) h in
      let told = found.0 in
      let fits_there = subst (λ (w : SiteNo × Command). Fits (place schema w.0.0 (fresh schema w.0.0) (own w.0.0 front)) w.1 (Refused x))
      found.1 fits in
      familiar_accept (place schema told.to.0 (fresh schema told.to.0) (own told.to.0 front)) told x refl
      (never_forged schema good front sound told found.2) fits_there strange

  -- so a reply that is owed to a step is none
  pub familiar_step : (step : WorldStep) → StepFits schema step → (who : SiteNo × Command) → question_of front step ≡ Some who → (r : Reply)
      → Fits (place schema who.0.0 (fresh schema who.0.0) (own who.0.0 front)) who.1 r → IsFamiliar r
  familiar_step step fit who h r fits =
      familiar r (λ x is strange. never_strange step fit who h x
      (subst (λ (q : Reply). Fits (place schema who.0.0 (fresh schema who.0.0) (own who.0.0 front)) who.1 q) is fits) strange)
