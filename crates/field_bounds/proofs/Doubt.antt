-- What is in doubt: only while a site is down, and then no more than what a command would have been answered.
use Rattle.std.proofs.Common.{◌≡◌, ℕ, ◌<◌, ◌+◌, Bool, true, false, List, [], ◌∷◌, refl, sym, zero-add, ◌∙◌, ap, subst, inl, inr, arith, Option, None}
use Rattle.field_bounds.specs.declared.entry.Command.{Command}
use Rattle.field_bounds.specs.declared.entry.Command.TheVariants.{Begin, Restart}
use Rattle.field_bounds.specs.declared.entry.Last.{Last}
use Rattle.field_bounds.specs.declared.entry.Reply.{Reply}
use Rattle.field_bounds.specs.declared.entry.Reply.TheVariants.{Restarted, Unsure, StillDown, Refused}
use Rattle.field_bounds.specs.declared.entry.Refusal.{Refusal}
use Rattle.field_bounds.specs.declared.entry.Entry.{Entry}
use Rattle.field_bounds.specs.declared.effect.Effect.{Effect}
use Rattle.field_bounds.specs.declared.effect.Effect.TheVariants.{Stops}
use Rattle.field_bounds.specs.Schema.{SchemaValue}
use Rattle.field_bounds.specs.Effects.{Base, effect_of, counts, with_effect, after, effects, doubt_kept_before, says_doubt_kept}
use Rattle.field_bounds.specs.Owed.{Place, place, first, refusals, answer, is_up, up_after, is_unsure, is_begun_reply, epoch_of, epoch_after, count_since, count_after, IsRestarted, Fits, RestartFits, AnswerFits, IsRun}
use Rattle.field_bounds.proofs.Refused.{match_cases, is_restart, up_there}

-- ---- where a site is up, nothing is in doubt

counts_sure : (kept : Bool) (r : Reply) → is_unsure r ≡ false → counts kept r ≡ counts false r
counts_sure kept Unsure h = cc
counts_sure kept r h = refl

-- only an answer in doubt depends on what is kept
pub after_kept : (base : Base) (kept : Bool) (c : Command) (r : Reply) (es : List Effect) → is_unsure r ≡ false
    → after base kept c r es ≡ after base false c r es
after_kept base kept c r es h = ap (λ (counted : Bool). with_effect counted (effect_of base es c r) es) (counts_sure kept r h)

-- a refusal has no effect
refusal_passes : (base : Base) (es : List Effect) (c : Command) (x : Refusal) → effect_of base es c (Refused x) ≡ None
refusal_passes base es Begin x = refl
refusal_passes base es c x = refl

pub after_refused : (base : Base) (kept : Bool) (c : Command) (x : Refusal) (es : List Effect) → after base kept c (Refused x) es ≡ es
after_refused base kept c x es = ap (λ (effect : Option Effect). with_effect true effect es) (refusal_passes base es c x)

up_step : (base : Base) (kept : Bool) (o : List Entry) (c : Command) (r : Reply)
    → (is_up base o ≡ true → effects base kept o ≡ effects base false o) → up_after (is_up base o) r ≡ true
    → after base kept c r (effects base (doubt_kept_before kept r) o) ≡ after base false c r (effects base (doubt_kept_before false r) o)
up_step base kept o c (Restarted epoch found) before up =
    after_kept base kept c (Restarted epoch found) (effects base (says_doubt_kept found) o) refl
up_step base kept o c Unsure before up = cc
up_step base kept o c StillDown before up = cc
up_step base kept o c r before up = after_kept base kept c r (effects base kept o) refl
    ∙ ap (λ (es : List Effect). after base false c r es) (before up)

-- what took effect at a site that is up doesn't rest on what the next restart finds
pub nothing_in_doubt : (base : Base) (kept : Bool) (o : List Entry) → is_up base o ≡ true → effects base kept o ≡ effects base false o
nothing_in_doubt base kept [] up = refl
nothing_in_doubt base kept (e ∷ o) up = up_step base kept o e.command e.reply (nothing_in_doubt base kept o) up

unsure_step : (up : Bool) (n : ℕ) (r : Reply) → (up ≡ true → n ≡ 0) → up_after up r ≡ true → count_after is_unsure n r ≡ 0
unsure_step up n (Restarted epoch found) h is = refl
unsure_step up n Unsure h is = cc
unsure_step up n StillDown h is = cc
unsure_step up n r h is = omega (arith, h is)

-- at a site that is up no reply since the last restart was in doubt
pub up_none_unsure : (base : Base) (o : List Entry) → is_up base o ≡ true → count_since is_unsure o ≡ 0
up_none_unsure base [] up = refl
up_none_unsure base (e ∷ o) up = unsure_step (is_up base o) (count_since is_unsure o) e.reply (up_none_unsure base o) up

-- ---- an answer is no restart's

pub kept_before_answer : (at : Place) (c : Command) (kept : Bool) → doubt_kept_before kept (answer at c) ≡ kept
kept_before_answer at Begin kept = refl
kept_before_answer at c kept = refl

pub epoch_answer : (at : Place) (c : Command) (n : ℕ) → epoch_after n (answer at c) ≡ n
epoch_answer at Begin n = refl
epoch_answer at c n = refl

-- ---- a restart

-- what took effect after a restart is what it found, and the stop
pub restarted_is : (base : Base) (kept : Bool) (e : Entry) (o : List Entry) (found : Last) → IsRestarted e found
    → effects base kept (e ∷ o) ≡ Stops ∷ effects base (says_doubt_kept found) o
restarted_is base kept e o found is =
    rw (is.0, is.2) refl

-- ---- one induction over a run, for what each effect keeps

-- holds of what took effect, with the epoch and the number of transactions begun in it, at the start, after a stop and
-- after each answer, be it in doubt
pub record IsKeptBy (schema : SchemaValue) (s : ℕ) (base : Base) (Holds : ℕ → ℕ → List Effect → Type 0) : Type 0 where
  pub start : Holds base.epoch 0 []
  pub stop : (n count m : ℕ) (es : List Effect) → n < m → Holds n count es → Holds m 0 (Stops ∷ es)
  pub carried : (o : List Entry) (c : Command) → first (refusals (place schema s base o) c) ≡ None → (kept : Bool)
      → Holds (epoch_of base o) (count_since is_begun_reply o) (effects base false o)
      → Holds (epoch_of base o) (count_after is_begun_reply (count_since is_begun_reply o) (answer (place schema s base o) c))
      (after base kept c (answer (place schema s base o) c) (effects base false o))
      × Holds (epoch_of base o) (count_since is_begun_reply o) (after base kept c Unsure (effects base false o))

module _ (schema : SchemaValue) (s : ℕ) (base : Base) (Holds : ℕ → ℕ → List Effect
    → Type 0) (is : IsKeptBy schema s base Holds) (o : List Entry) where
  abbrev here : Place
  here = place schema s base o

  abbrev epoch : ℕ
  epoch = epoch_of base o

  abbrev count : ℕ
  count = count_since is_begun_reply o

  abbrev Before : Type 0
  Before = (kept : Bool) → Holds epoch count (effects base kept o)

  abbrev Then : Bool → Command → Reply → Type 0
  Then kept c r = Holds (epoch_after epoch r) (count_after is_begun_reply count r)
      (after base kept c r (effects base (doubt_kept_before kept r) o))

  same : (es : List Effect) → Holds epoch count es → Holds epoch (0 + count) es
  same es h = subst (λ (n : ℕ). Holds epoch n es) (sym (zero-add count)) h

  answer_holds : (c : Command) (r : Reply) (kept : Bool) → is_restart c ≡ false → AnswerFits here c r → Before → Then kept c r
  answer_holds c r kept n fits before =
      elim (match_cases (first (refusals here c)) _ _ fits) [
        | inl refused ↦
            subst (λ (x : Reply). Then kept c x) (sym refused.2)
            (subst (λ (es : List Effect). Holds epoch (0 + count) es) (sym (after_refused base kept c refused.0 (effects base kept o)))
            (same (effects base kept o) (before kept)))
        | inr met ↦
            let may = is.carried o c met.0 kept (before false) in
            let sure = sym (nothing_in_doubt base kept o (up_there here c n met.0)) in
            elim met.1 [
              | inl answered ↦
                  let reply = answer here c in
                  let number = count_after is_begun_reply count reply in
                  subst (λ (x : Reply). Then kept c x) (sym answered)
                  (subst (λ (k : Bool). Holds (epoch_after epoch reply) number (after base kept c reply (effects base k o)))
                  (sym (kept_before_answer here c kept))
                  (subst (λ (es : List Effect). Holds (epoch_after epoch reply) number (after base kept c reply es)) sure
                  (subst (λ (n : ℕ). Holds n number (after base kept c reply (effects base false o)))
                  (sym (epoch_answer here c epoch)) may.0)))
              | inr unsure ↦
                  subst (λ (x : Reply). Then kept c x) (sym unsure.0)
                  (subst (λ (es : List Effect). Holds epoch (0 + count) (after base kept c Unsure es)) sure
                  (same (after base kept c Unsure (effects base false o)) may.1))
            ]
      ]

  restart_holds : (r : Reply) (kept : Bool) → RestartFits here r → Before → Then kept Restart r
  restart_holds StillDown kept fits before = same (effects base kept o) (before kept)
  restart_holds (Refused x) kept fits before = same (effects base kept o) (before kept)
  restart_holds (Restarted next found) kept fits before =
      is.stop epoch count next _ (omega (arith, fits.0)) (before (says_doubt_kept found))
  restart_holds r kept fits before = absurd fits

  step_holds : (c : Command) (r : Reply) (kept : Bool) → Fits here c r → Before → Then kept c r
  step_holds Restart r kept fits before = restart_holds r kept fits before
  step_holds c r kept fits before = answer_holds c r kept refl fits before

-- so it holds after a run, whatever is kept
pub run_holds : (schema : SchemaValue) (s : ℕ) (base : Base) (Holds : ℕ → ℕ → List Effect → Type 0) → IsKeptBy schema s base Holds
    → (o : List Entry) → IsRun schema s base o
    → (kept : Bool) → Holds (epoch_of base o) (count_since is_begun_reply o) (effects base kept o)
run_holds schema s base Holds is [] run kept = is.start
run_holds schema s base Holds is (e ∷ o) run kept =
    step_holds schema s base Holds is o e.command e.reply kept run.1 (run_holds schema s base Holds is o run.0)
