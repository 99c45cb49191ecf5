-- What is written for lines, one after another.
use Rattle.std.proofs.Common.{◌≡◌, ℕ, ◌<◌, List, [], ◌∷◌, ◌++◌, Ok, length, reverse, inl, inr, refl, sym, ap, ◌∙◌, subst, append_assoc, append-nil, arith}
use Rattle.std.proofs.lemmas.List.{reverse-append}
use Rattle.field_bounds.specs.Schema.{SchemaValue}
use Rattle.field_bounds.specs.Header.{schema_of}
use Rattle.field_bounds.specs.Limits.{IsSchema}
use Rattle.field_bounds.proofs.Alone.{schema_of-limits}
use Rattle.world_steps.specs.declared.step.WorldStep.{WorldStep}
use Rattle.world_steps.proofs.Sound.{StepsFit}
use Rattle.world_steps.proofs.Living.{one_store}
use Rattle.entry_text.specs.Lines.{max_line}
use Rattle.escrow_run.specs.Text.{line_text, trace, IsBad, AsksSteps, IsAnswer, AreAnswers, HasText}
use Rattle.escrow_run.proofs.LevelLemmas.{level_fits}
use Rattle.escrow_run.proofs.AimLemmas.{reach_fits}

-- a line that is too long is bad, whatever it says
pub long_is_bad : (schema : SchemaValue) (line : List ℕ) → max_line < length line → IsBad schema line
long_is_bad schema line long = (
  (λ step asks. omega (arith, asks.short, long)),
  (λ field kind levels. omega (arith, levels.short, long)),
  (λ aim aims. omega (arith, aims.short, long)),
)

-- ---- one more line

-- the steps that a line asks together are steps that a world takes
carried_fit : (schema : SchemaValue) → IsSchema schema → (line : List ℕ) (old steps : List WorldStep) (head : List ℕ) → StepsFit schema old
    → AsksSteps schema line old steps head
    → StepsFit schema (reverse steps ++ old)
carried_fit schema is line old steps head earlier (inl level) =
    subst (λ (l : List WorldStep). StepsFit schema (reverse l ++ old)) (sym level.steps_are)
    (level_fits schema (trace schema old) level.field level.kind old earlier)
carried_fit schema is line old steps head earlier (inr reach) = reach_fits schema is line old steps head earlier reach

-- and so are those that lines ask
answers_fit : (schema : SchemaValue) → IsSchema schema → (lines : List (List ℕ)) (steps : List WorldStep) (text : List ℕ)
    → AreAnswers schema lines steps text → StepsFit schema steps
answers_fit schema is [] steps text answers = subst (λ (l : List WorldStep). StepsFit schema l) (sym answers.0) tt
answers_fit schema is (line ∷ before) steps text answers =
    let earlier = answers_fit schema is before answers.0 answers.1.0 answers.1.2 in
    elim answers.1.3 [
      | inl bad ↦ subst (λ (l : List WorldStep). StepsFit schema l) (sym bad.1) earlier
      | inr good ↦ elim good [
        | inl asked ↦ subst (λ (l : List WorldStep). StepsFit schema l) (sym asked.2) (earlier, asked.1.fits)
        | inr carried ↦
            subst (λ (l : List WorldStep). StepsFit schema l) (sym carried.taken)
            (carried_fit schema is line answers.0 carried.steps carried.head earlier carried.asked)
      ]
    ]

-- the text with an answer to one more line
pub HasText-more : (schema : SchemaValue) (old new : List WorldStep) (lines : List (List ℕ)) (line text reply : List ℕ)
    → HasText schema old lines text → IsAnswer schema line old new reply → HasText schema new (lines ++ line ∷ []) (text ++ reply)
HasText-more schema old new lines line text reply has answer =
    let back : reverse (has.behind ++ line ∷ []) ≡ line ∷ reverse has.behind = reverse-append has.behind (line ∷ []) in
    let answers : AreAnswers schema (line ∷ reverse has.behind) new (has.body ++ reply) =
    (old, (has.body, reply, has.answers, answer, refl)) in
    let is = schema_of-limits has.header schema has.start in
    record {
      header = has.header;
      behind = has.behind ++ line ∷ [];
      body = has.body ++ reply;
      parts = ap (λ l. l ++ line ∷ []) has.parts;
      start = has.start;
      answers = subst (λ ls. AreAnswers schema ls new (has.body ++ reply)) (sym back) answers;
      one_store = one_store schema is new (answers_fit schema is (line ∷ reverse has.behind) new (has.body ++ reply) answers);
      written = ap (λ t. t ++ reply) has.written ∙ append_assoc (line_text has.header) has.body reply;
    }

-- the text of the header line
pub HasText-start : (schema : SchemaValue) (line : List ℕ) → schema_of line ≡ Ok schema → HasText schema [] (line ∷ []) (line_text line)
HasText-start schema line start = record {
  header = line;
  behind = [];
  body = [];
  parts = refl;
  start = start;
  answers = (refl, refl);
  one_store = one_store schema (schema_of-limits line schema start) [] tt;
  written = sym (append-nil (line_text line));
}
