-- The steps that a line asks which reaches for a value: which they are, and that a world takes them.
use Rattle.std.proofs.Common.{◌≡◌, ℕ, List, [], ◌∷◌, ◌++◌, Option, Some, None, length, reverse, refl, sym, ap, subst, ◌∙◌, All, codes, inr}
use Rattle.std.specs.Fmt.{decimal}
use Rattle.std.proofs.lemmas.List.{reverse-append, reverse-reverse}
use Rattle.std.proofs.lemmas.List.Elements.{All-nil, All-push}
use Rattle.field_bounds.specs.declared.entry.Entry.{Entry}
use Rattle.field_bounds.specs.Schema.{SchemaValue}
use Rattle.field_bounds.specs.Limits.{IsSchema}
use Rattle.world_steps.specs.declared.step.WorldStep.{WorldStep}
use Rattle.world_steps.specs.World.{StepFits, world_of, trace_by}
use Rattle.world_steps.specs.View.{WorldValue, trace_of}
use Rattle.world_steps.proofs.Sound.{StepsFit}
use Rattle.kept_state.specs.Luck.{entries}
use Rattle.reaching_steps.specs.declared.fault.ReachFault.{ReachFault}
use Rattle.reaching_steps.specs.declared.fault.ReachFault.TheVariants.{NoMemory}
use Rattle.reaching_steps.specs.Reach.{reach_steps, reach_fault}
use Rattle.reaching_steps.proofs.Reaching.{all_reached}
use Rattle.escrow_run.specs.declared.aim.Aim.{Aim}
use Rattle.escrow_run.specs.Reach.{reach_text, IsReason}
use Rattle.escrow_run.specs.Text.{trace, Aims, IsReached, AsksReach, AsksSteps}
use Rattle.escrow_run.proofs.LevelLemmas.{all_fit, fit_both}
use Rattle.escrow_run.proofs.AimLines.{one_aim}

-- ---- a world takes them

fit_all : (schema : SchemaValue) (steps : List WorldStep) → StepsFit schema steps → All (StepFits schema) (reverse steps)
fit_all schema [] h = All-nil (StepFits schema)
fit_all schema (x ∷ older) h =
    subst (λ (l : List WorldStep). All (StepFits schema) l) (sym (reverse-append (x ∷ []) older))
    (All-push (StepFits schema) (reverse older) x (fit_all schema older h.0) h.1)

again : (schema : SchemaValue) (steps : List WorldStep) → trace schema steps ≡ trace_by schema (reverse steps)
again schema steps = ap (λ (l : List WorldStep). entries (world_of schema l)) (sym (reverse-reverse steps))

taken_fit : (schema : SchemaValue) → IsSchema schema → (aim : Aim) (old steps : List WorldStep) (head : List ℕ) (first : Option ReachFault)
    → StepsFit schema old
    → first ≡ reach_fault schema (trace schema old) aim.site aim.field aim.target → IsReached schema aim old first steps head
    → StepsFit schema (reverse steps)
taken_fit schema good aim old steps head None fit is reached =
    let clear : reach_fault schema (trace_by schema (reverse old)) aim.site aim.field aim.target ≡ None =
    ap (λ (t : List Entry). reach_fault schema t aim.site aim.field aim.target) (sym (again schema old)) ∙ sym is in
    subst (λ (l : List WorldStep). StepsFit schema (reverse l)) (sym reached.0)
    (all_fit schema (reach_steps schema (reverse old) aim.site aim.field aim.target)
    (all_reached schema good (reverse old) (fit_all schema old fit) aim.site aim.field aim.target clear).fit)
taken_fit schema good aim old steps head (Some fault) fit is reached =
    subst (λ (l : List WorldStep). StepsFit schema (reverse l)) (sym reached.0) tt

pub reach_fits : (schema : SchemaValue) → IsSchema schema → (line : List ℕ) (old steps : List WorldStep) (head : List ℕ)
    → StepsFit schema old
    → AsksReach schema line old steps head → StepsFit schema (reverse steps ++ old)
reach_fits schema good line old steps head fit asks =
    fit_both schema (reverse steps) old
    (taken_fit schema good asks.aim old steps head
    (reach_fault schema (trace schema old) asks.aim.site asks.aim.field asks.aim.target) fit refl asks.reached) fit

-- ---- they are the only ones

one_reason : (fault : ReachFault) (word other : List ℕ) → IsReason fault word → IsReason fault other → word ≡ other
one_reason NoMemory word other a b = absurd a
one_reason fault word other a b = a ∙ sym b

one_reached : (schema : SchemaValue) (aim : Aim) (old : List WorldStep) (first : Option ReachFault) (steps others : List WorldStep)
    (head other : List ℕ)
    → IsReached schema aim old first steps head → IsReached schema aim old first others other → (steps ≡ others) × (head ≡ other)
one_reached schema aim old None steps others head other a b =
    let same : steps ≡ others = a.0 ∙ sym b.0 in
    (same, a.1 ∙ ap (λ (l : List WorldStep). reach_text schema aim ++ codes " -> steps " ++ decimal (length l)) same ∙ sym b.1)
one_reached schema aim old (Some fault) steps others head other a b =
    let word = one_reason fault a.1.0 b.1.0 a.1.1 b.1.1 in
    (a.0 ∙ sym b.0, a.1.2 ∙ ap (λ (w : List ℕ). reach_text schema aim ++ codes " -> no " ++ w) word ∙ sym b.1.2)

pub one_reach : (schema : SchemaValue) → IsSchema schema → (line : List ℕ) (old steps others : List WorldStep) (head other : List ℕ)
    → AsksReach schema line old steps head → AsksReach schema line old others other → (steps ≡ others) × (head ≡ other)
one_reach schema good line old steps others head other a b =
    let aims : a.aim ≡ b.aim = one_aim schema good line a.aim b.aim a.aims b.aims in
    one_reached schema b.aim old (reach_fault schema (trace schema old) b.aim.site b.aim.field b.aim.target) steps others head other
    (subst (λ (x : Aim). IsReached schema x old (reach_fault schema (trace schema old) x.site x.field x.target) steps head) aims a.reached)
    b.reached

-- ---- they are those that a call answers

pub asks_reach : (w : WorldValue) (line : List ℕ) (aim : Aim) (steps : List WorldStep) (head : List ℕ) → Aims w.schema line aim
    → reach_fault w.schema (trace_of w) aim.site aim.field aim.target ≡ None
    → steps ≡ reach_steps w.schema w.steps aim.site aim.field aim.target
    → head ≡ line ++ codes " -> steps " ++ decimal (length steps) → AsksSteps w.schema line (reverse w.steps) steps head
asks_reach w line aim steps head aims clear are is = inr (record {
  aim = aim;
  aims = aims;
  reached = subst (λ (o : Option ReachFault). IsReached w.schema aim (reverse w.steps) o steps head) (sym clear) (
    are ∙ ap (λ (l : List WorldStep). reach_steps w.schema l aim.site aim.field aim.target) (sym (reverse-reverse w.steps)),
    is ∙ ap (λ (l : List ℕ). l ++ codes " -> steps " ++ decimal (length steps)) aims.text,
  );
})

pub asks_in_vain : (w : WorldValue) (line : List ℕ) (aim : Aim) (fault : ReachFault) (word : List ℕ) → Aims w.schema line aim
    → reach_fault w.schema (trace_of w) aim.site aim.field aim.target ≡ Some fault → IsReason fault word
    → AsksSteps w.schema line (reverse w.steps) [] (line ++ codes " -> no " ++ word)
asks_in_vain w line aim fault word aims first reason = inr (record {
  aim = aim;
  aims = aims;
  reached = subst (λ (o : Option ReachFault). IsReached w.schema aim (reverse w.steps) o [] (line ++ codes " -> no " ++ word)) (sym first) (
    refl,
    (word, reason, ap (λ (l : List ℕ). l ++ codes " -> no " ++ word) aims.text),
  );
})
