-- What answers steps that were taken, told after the last of them.
use Rattle.std.proofs.Common.{◌≡◌, All, ℕ, ◌+◌, ◌<◌, List, [], ◌∷◌, ◌++◌, length, take, drop, get_or, None, refl, sym, ap, subst, ◌∙◌, codes}
use Rattle.std.specs.Fmt.{decimal}
use Rattle.std.proofs.lemmas.List.{take-append-drop, map_more, length-map}
use Rattle.std.proofs.lemmas.List.Elements.{All-nil, All-cons}
use Rattle.entry_text.proofs.Fronts.{front_still_kept}
use Rattle.field_bounds.specs.Schema.{SchemaValue}
use Rattle.field_bounds.specs.declared.id.SiteNo.{SiteNo}
use Rattle.field_bounds.specs.declared.entry.Command.{Command}
use Rattle.kept_state.specs.declared.luck.Luck.{Luck}
use Rattle.world_steps.specs.declared.step.WorldStep.{WorldStep}
use Rattle.world_steps.specs.declared.step.WorldStep.TheVariants.{Do}
use Rattle.world_steps.specs.declared.step.StepReply.TheVariants.{NoStatement}
use Rattle.world_steps.specs.View.{WorldValue, trace_of, Answers}
use Rattle.reaching_steps.specs.declared.taken.StepTaken.{StepTaken}
use Rattle.reaching_steps.specs.Taken.{steps_of, with_steps, AreAnswered}
use Rattle.reaching_steps.specs.Reach.{reach_steps, reach_fault}
use Rattle.reaching_steps.proofs.Growing.{with_both, answered_at}
use Rattle.escrow_run.specs.declared.aim.Aim.{Aim}
use Rattle.escrow_run.specs.Text.{line_text, Aims}
use Rattle.escrow_run.specs.Run.{Answered, HasTaken, IsAnswered, Tells}
use Rattle.escrow_run.proofs.AimLemmas.{asks_reach}
use Rattle.escrow_run.proofs.AnswerLemmas.{answered_many, took_more}

-- ---- one after another

-- the first so many are told, by whatever world they were taken
abbrev pub TellsFront : SchemaValue → List StepTaken → ℕ → List ℕ → List ℕ → Type 0
TellsFront schema taken i out grown =
    (old : WorldValue) → old.schema ≡ schema → AreAnswered old taken
    → HasTaken (steps_of (take i taken)) old (with_steps old (steps_of (take i taken))) out grown

pub tells_more : (schema : SchemaValue) (taken : List StepTaken) (i : ℕ) (d : StepTaken) (out between grown : List ℕ)
    → i < length taken → TellsFront schema taken i out between → Tells schema (get_or taken i d ∷ []) between grown
    → TellsFront schema taken (i + 1) out grown
tells_more schema taken i d out between grown below before one = λ old same answered.
    let front = steps_of (take i taken) in
    let step = (get_or taken i d).step in
    let middle : WorldValue = with_steps old front in
    let last : HasTaken (step ∷ []) middle (with_steps middle (step ∷ [])) between grown =
    one middle same (answered_at old taken i d below answered, tt) in
    let all : steps_of (take (i + 1) taken) ≡ front ++ step ∷ [] = map_more (λ (x : StepTaken). x.step) taken i d below in
    subst (λ (l : List WorldStep). HasTaken l old (with_steps old l) out grown) (sym all)
    (subst (λ (w : WorldValue). HasTaken (front ++ step ∷ []) old w out grown) (with_both old front (step ∷ []))
    (took_more front step old middle (with_steps middle (step ∷ [])) out between grown (before old same answered) last))

-- ---- that some world answered them

pub all_answered : (w : WorldValue) (taken : List StepTaken) → AreAnswered w taken → All IsAnswered taken
all_answered w [] h = All-nil IsAnswered
all_answered w (one ∷ later) h =
    All-cons IsAnswered one later (w, (with_steps w (one.step ∷ []), h.0)) (all_answered (with_steps w (one.step ∷ [])) later h.1)

-- a site that is asked makes an entry
pub always_made : (one : StepTaken) (site : SiteNo) (command : Command) (luck : Luck) → IsAnswered one → one.reply ≡ NoStatement
    → one.step ≡ Do site command luck → ⊥
always_made one site command luck h none is =
    let by : Answers NoStatement h.0 (Do site command luck) h.1.0 = rw (none, is) at h.1.1 in
    cc by.0

-- ---- what stands in front

pub front_again : (out between grown : List ℕ) → take (length out) between ≡ out → take (length between) grown ≡ between
    → take (length out) grown ≡ out
front_again out between grown first last =
    front_still_kept out between (drop (length out) between) grown
    (sym (take-append-drop (length out) between) ∙ ap (λ (l : List ℕ). l ++ drop (length out) between) first) last

-- ---- a line that reaches

pub answered_reach : (old new : WorldValue) (schema : SchemaValue) (line : List ℕ) (aim : Aim) (taken : List StepTaken)
    (out grown : List ℕ)
    → Aims old.schema line aim → reach_fault old.schema (trace_of old) aim.site aim.field aim.target ≡ None
    → steps_of taken ≡ reach_steps old.schema old.steps aim.site aim.field aim.target → new ≡ with_steps old (steps_of taken)
    → AreAnswered old taken → schema ≡ new.schema
    → Tells schema taken (out ++ line_text (line ++ codes " -> steps " ++ decimal (length taken))) grown
    → Answered line old new out grown
answered_reach old new schema line aim taken out grown aims clear are world answered same tells =
    let steps = steps_of taken in
    let head = line ++ codes " -> steps " ++ decimal (length taken) in
    let count : head ≡ line ++ codes " -> steps " ++ decimal (length steps) =
    ap (λ (n : ℕ). line ++ codes " -> steps " ++ decimal n) (sym (length-map taken (λ (x : StepTaken). x.step))) in
    let schemas : old.schema ≡ schema = sym (same ∙ ap (λ (w : WorldValue). w.schema) world) in
    answered_many line steps head old new out (out ++ line_text head) grown (asks_reach old line aim steps head aims clear are count) refl
    (subst (λ (w : WorldValue). HasTaken steps old w (out ++ line_text head) grown) (sym world) (tells old schemas answered))
