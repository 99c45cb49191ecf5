-- What answers a line, by the steps that a world takes for it.
use Rattle.std.proofs.Common.{◌≡◌, ℕ, ◌+◌, ◌<◌, List, [], ◌∷◌, ◌++◌, length, take, get_or, reverse, refl, sym, ap, subst, ◌∙◌, append_assoc, append-nil, inl, inr}
use Rattle.std.proofs.lemmas.List.{reverse-append, take_more}
use Rattle.field_bounds.specs.declared.entry.Entry.{Entry}
use Rattle.field_bounds.specs.Schema.{SchemaValue}
use Rattle.kept_state.specs.Luck.{entries}
use Rattle.entry_text.specs.Spelling.{entry_text}
use Rattle.world_steps.specs.declared.step.WorldStep.{WorldStep}
use Rattle.world_steps.specs.declared.step.StepReply.TheVariants.{Made}
use Rattle.world_steps.specs.View.{WorldValue, lucky_trace, Answers}
use Rattle.escrow_run.specs.Text.{line_text, Asks, AsksSteps, trace, IsReply, AreReplies}
use Rattle.escrow_run.specs.Run.{Answered, HasTaken}

-- a world that has taken steps
abbrev with_steps : WorldValue → List WorldStep → WorldValue
with_steps world steps = record world { steps = world.steps ++ steps }

-- ---- many steps

pub took_none : (old : WorldValue) (out : List ℕ) → HasTaken [] old old out out
took_none old out = record {
  replies = [];
  taken = ap (λ (l : List WorldStep). record old { steps = l }) (sym (append-nil old.steps));
  answered = refl;
  written = sym (append-nil out);
}

replies_more : (schema : SchemaValue) (earlier steps : List WorldStep) (step : WorldStep) (front last : List ℕ)
    → AreReplies schema earlier (reverse steps) front → IsReply schema (reverse steps ++ earlier) step last
    → AreReplies schema earlier (reverse (steps ++ step ∷ [])) (front ++ last)
replies_more schema earlier steps step front last before is =
    subst (λ (l : List WorldStep). AreReplies schema earlier l (front ++ last)) (sym (reverse-append steps (step ∷ []))) (
      front,
      last,
      before,
      is,
      refl,
    )

only_reply : (schema : SchemaValue) (earlier : List WorldStep) (step : WorldStep) (reply : List ℕ)
    → AreReplies schema earlier (step ∷ []) reply → IsReply schema earlier step reply
only_reply schema earlier step reply answered =
    let (front, last, none, is, all) = answered in
    subst (IsReply schema earlier step) (sym (all ∙ ap (λ (l : List ℕ). l ++ last) none)) is

-- one step, by the entry that it made
pub took_made : (old new : WorldValue) (step : WorldStep) (entry : Entry) (out grown : List ℕ) → new ≡ with_steps old (step ∷ [])
    → Answers (Made entry) old step new → grown ≡ out ++ line_text (entry_text old.schema entry) → HasTaken (step ∷ []) old new out grown
took_made old new step entry out grown is made written =
    let text = line_text (entry_text old.schema entry) in
    let lived : trace old.schema (step ∷ reverse old.steps) ≡ entry ∷ trace old.schema (reverse old.steps) =
    ap (λ (l : List WorldStep). trace old.schema l) (sym (reverse-append old.steps (step ∷ [])))
    ∙ ap (λ (w : WorldValue). entries (lucky_trace w)) (sym is) ∙ ap entries made in
    record { replies = text; taken = is; answered = ([], text, refl, inl (entry, lived, refl), refl); written = written }

pub took_more : (steps : List WorldStep) (step : WorldStep) (old middle new : WorldValue) (out between grown : List ℕ)
    → HasTaken steps old middle out between → HasTaken (step ∷ []) middle new between grown
    → HasTaken (steps ++ step ∷ []) old new out grown
took_more steps step old middle new out between grown before last =
    let after : HasTaken (step ∷ []) (with_steps old steps) new between grown =
    subst (λ (w : WorldValue). HasTaken (step ∷ []) w new between grown) before.taken last in
    let is : IsReply old.schema (reverse steps ++ reverse old.steps) step after.replies =
    subst (λ (l : List WorldStep). IsReply old.schema l step after.replies) (reverse-append old.steps steps)
    (only_reply old.schema (reverse (old.steps ++ steps)) step after.replies after.answered) in
    record {
      replies = before.replies ++ after.replies;
      taken = after.taken ∙ ap (λ (l : List WorldStep). record old { steps = l }) (append_assoc old.steps steps (step ∷ []));
      answered = replies_more old.schema (reverse old.steps) steps step before.replies after.replies before.answered is;
      written = after.written ∙ ap (λ (l : List ℕ). l ++ after.replies) before.written ∙ append_assoc out before.replies after.replies;
    }

-- the next of many steps
pub took_next : (steps : List WorldStep) (i : ℕ) (d step : WorldStep) (old middle new : WorldValue) (out between grown : List ℕ)
    → i < length steps → step ≡ get_or steps i d → HasTaken (take i steps) old middle out between
    → HasTaken (step ∷ []) middle new between grown
    → HasTaken (take (i + 1) steps) old new out grown
took_next steps i d step old middle new out between grown below is before last =
    let all : take (i + 1) steps ≡ take i steps ++ step ∷ [] =
    take_more steps i d below ∙ ap (λ (s : WorldStep). take i steps ++ s ∷ []) (sym is) in
    subst (λ (l : List WorldStep). HasTaken l old new out grown) (sym all)
    (took_more (take i steps) step old middle new out between grown before last)

-- ---- a line

pub answered_step : (line : List ℕ) (step : WorldStep) (old new : WorldValue) (out grown : List ℕ) → Asks old.schema line step
    → HasTaken (step ∷ []) old new out grown → Answered line old new out grown
answered_step line step old new out grown asks took = record {
  text = took.replies;
  schema = ap (λ (w : WorldValue). w.schema) took.taken;
  answer = inr (inl (
    step,
    asks,
    ap (λ (w : WorldValue). reverse w.steps) took.taken ∙ reverse-append old.steps (step ∷ []),
    only_reply old.schema (reverse old.steps) step took.replies took.answered,
  ));
  written = took.written;
}

pub answered_many : (line : List ℕ) (steps : List WorldStep) (head : List ℕ) (old new : WorldValue) (out between grown : List ℕ)
    → AsksSteps old.schema line (reverse old.steps) steps head → between ≡ out ++ line_text head → HasTaken steps old new between grown
    → Answered line old new out grown
answered_many line steps head old new out between grown asks front took = record {
  text = line_text head ++ took.replies;
  schema = ap (λ (w : WorldValue). w.schema) took.taken;
  answer = inr (inr (record {
    steps = steps;
    head = head;
    replies = took.replies;
    asked = asks;
    taken = ap (λ (w : WorldValue). reverse w.steps) took.taken ∙ reverse-append old.steps steps;
    answered = took.answered;
    written = refl;
  }));
  written = took.written ∙ ap (λ (l : List ℕ). l ++ took.replies) front ∙ append_assoc out (line_text head) took.replies;
}
