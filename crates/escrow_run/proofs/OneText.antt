-- The text of lines is the only one.
use Rattle.std.proofs.Common.{◌≡◌, ℕ, List, [], ◌∷◌, ◌++◌, Result, Ok, Option, None, reverse, length, sym, ap, ◌∙◌, subst, arith, inl, inr}
use Rattle.field_bounds.specs.Schema.{SchemaValue}
use Rattle.field_bounds.specs.Header.{schema_of}
use Rattle.field_bounds.specs.Limits.{IsSchema}
use Rattle.field_bounds.specs.declared.kind.Kind.{Kind}
use Rattle.field_bounds.specs.declared.id.FieldNo.{FieldNo}
use Rattle.field_bounds.specs.declared.id.SiteNo.{SiteNo}
use Rattle.field_bounds.specs.declared.entry.Command.{Command}
use Rattle.field_bounds.specs.declared.entry.Entry.{Entry}
use Rattle.field_bounds.specs.declared.fault.SchemaFault.{SchemaFault}
use Rattle.field_bounds.proofs.Alone.{schema_of-limits}
use Rattle.entry_text.specs.Spelling.{entry_text}
use Rattle.kept_state.specs.Luck.{entries}
use Rattle.world_steps.specs.declared.step.WorldStep.{WorldStep}
use Rattle.world_steps.specs.World.{question_of, luck_of, with_entry, world_of}
use Rattle.escrow_run.specs.Text.{line_text, trace, moves_text, Asks, IsBad, IsReply, AreReplies, AsksLevel, AsksSteps, IsCarriedOut, IsAnswer, AreAnswers, HasText}
use Rattle.escrow_run.specs.Level.{level_gifts}
use Rattle.escrow_run.proofs.StepLemmas.{head_is, tail_is, one_step}
use Rattle.escrow_run.proofs.LevelLines.{no_both, one_level}
use Rattle.escrow_run.proofs.AimLines.{asks_no_reach, levels_no_reach}
use Rattle.escrow_run.proofs.AimLemmas.{one_reach}

ok_is : (r : Result SchemaValue SchemaFault) (s t : SchemaValue) → r ≡ Ok s → r ≡ Ok t → s ≡ t
ok_is r s t h g = cc

-- a line asks one step
only_asked : (schema : SchemaValue) → IsSchema schema → (line : List ℕ) (step other : WorldStep) → Asks schema line step
    → Asks schema line other → step ≡ other
only_asked schema is line step other a b = one_step schema is step other a.numbers b.numbers (sym a.text ∙ b.text)

-- a line that levels a field has one list of gifts, and one head
one_levelling : (schema : SchemaValue) → IsSchema schema → (line : List ℕ) (old steps others : List WorldStep) (head other : List ℕ)
    → AsksLevel schema line old steps head → AsksLevel schema line old others other → (steps ≡ others) × (head ≡ other)
one_levelling schema is line old steps others head other a b =
    let one = one_level schema is line a.field b.field a.kind b.kind a.levels b.levels in
    let same : steps ≡ others =
    a.steps_are ∙ ap (λ (f : FieldNo). level_gifts schema (trace schema old) f a.kind) one.0
    ∙ ap (λ (k : Kind). level_gifts schema (trace schema old) b.field k) one.1 ∙ sym b.steps_are in (
      same,
      a.head_is ∙ ap (λ (f : FieldNo). moves_text schema f a.kind (length steps)) one.0
          ∙ ap (λ (k : Kind). moves_text schema b.field k (length steps)) one.1
          ∙ ap (λ (l : List WorldStep). moves_text schema b.field b.kind (length l)) same ∙ sym b.head_is,
    )

-- and so has each line that asks steps together
one_list : (schema : SchemaValue) → IsSchema schema → (line : List ℕ) (old steps others : List WorldStep) (head other : List ℕ)
    → AsksSteps schema line old steps head → AsksSteps schema line old others other → (steps ≡ others) × (head ≡ other)
one_list schema is line old steps others head other (inl a) (inl b) = one_levelling schema is line old steps others head other a b
one_list schema is line old steps others head other (inl a) (inr b) =
    absurd (levels_no_reach schema line a.field a.kind b.aim a.levels b.aims)
one_list schema is line old steps others head other (inr a) (inl b) =
    absurd (levels_no_reach schema line b.field b.kind a.aim b.levels a.aims)
one_list schema is line old steps others head other (inr a) (inr b) = one_reach schema is line old steps others head other a b

-- it is no bad line, and asks no step alone
not_bad : (schema : SchemaValue) (line : List ℕ) (old steps : List WorldStep) (head : List ℕ) → IsBad schema line
    → AsksSteps schema line old steps head → ⊥
not_bad schema line old steps head bad (inl a) = bad.1 a.field a.kind a.levels
not_bad schema line old steps head bad (inr a) = bad.2 a.aim a.aims

not_alone : (schema : SchemaValue) (line : List ℕ) (old steps : List WorldStep) (step : WorldStep) (head : List ℕ) → Asks schema line step
    → AsksSteps schema line old steps head → ⊥
not_alone schema line old steps step head asks (inl a) = no_both schema line step a.field a.kind asks a.levels
not_alone schema line old steps step head asks (inr a) = asks_no_reach schema line step a.aim asks a.aims

-- lines ask one list of steps
next_steps : (schema : SchemaValue) → IsSchema schema → (line : List ℕ) (old new now : List WorldStep) (text again : List ℕ)
    → IsAnswer schema line old new text → IsAnswer schema line old now again → new ≡ now
next_steps schema is line old new now text again (inl a) (inl b) = a.1 ∙ sym b.1
next_steps schema is line old new now text again (inl a) (inr (inl b)) = absurd (a.0.0 b.0 b.1)
next_steps schema is line old new now text again (inl a) (inr (inr b)) = absurd (not_bad schema line old b.steps b.head a.0 b.asked)
next_steps schema is line old new now text again (inr (inl a)) (inl b) = absurd (b.0.0 a.0 a.1)
next_steps schema is line old new now text again (inr (inl a)) (inr (inl b)) =
    a.2 ∙ ap (λ (x : WorldStep). x ∷ old) (only_asked schema is line a.0 b.0 a.1 b.1) ∙ sym b.2
next_steps schema is line old new now text again (inr (inl a)) (inr (inr b)) =
    absurd (not_alone schema line old b.steps a.0 b.head a.1 b.asked)
next_steps schema is line old new now text again (inr (inr a)) (inl b) = absurd (not_bad schema line old a.steps a.head b.0 a.asked)
next_steps schema is line old new now text again (inr (inr a)) (inr (inl b)) =
    absurd (not_alone schema line old a.steps b.0 a.head b.1 a.asked)
next_steps schema is line old new now text again (inr (inr a)) (inr (inr b)) =
    a.taken ∙ ap (λ (l : List WorldStep). reverse l ++ old) (one_list schema is line old a.steps b.steps a.head b.head a.asked b.asked).0
    ∙ sym b.taken

all_steps : (schema : SchemaValue) → IsSchema schema → (lines : List (List ℕ)) (steps others : List WorldStep) (text again : List ℕ)
    → AreAnswers schema lines steps text → AreAnswers schema lines others again → steps ≡ others
all_steps schema is [] steps others text again a b = a.0 ∙ sym b.0
all_steps schema is (line ∷ before) steps others text again a b =
    let same = all_steps schema is before a.0 b.0 a.1.0 b.1.0 a.1.2 b.1.2 in
    next_steps schema is line b.0 steps others a.1.1 b.1.1
    (subst (λ (l : List WorldStep). IsAnswer schema line l steps a.1.1) same a.1.3) b.1.3

-- and each step has one reply

-- a step that asks no site anything makes no entry
idle : (schema : SchemaValue) (earlier : List WorldStep) (step : WorldStep) → question_of (trace schema earlier) step ≡ None
    → trace schema (step ∷ earlier) ≡ trace schema earlier
idle schema earlier step none = ap (λ (o : Option (SiteNo × Command)).
    entries (with_entry schema o (luck_of step) (world_of schema earlier))) none

no_growth : (schema : SchemaValue) (earlier : List WorldStep) (step : WorldStep) (entry : Entry)
    → question_of (trace schema earlier) step ≡ None
    → trace schema (step ∷ earlier) ≡ entry ∷ trace schema earlier → ⊥
no_growth schema earlier step entry none grows =
    let same : trace schema earlier ≡ entry ∷ trace schema earlier = sym (idle schema earlier step none) ∙ grows in
    omega (arith, ap length same)

one_reply : (schema : SchemaValue) (earlier : List WorldStep) (step : WorldStep) (text again : List ℕ) → IsReply schema earlier step text
    → IsReply schema earlier step again → text ≡ again
one_reply schema earlier step text again (inl a) (inl b) =
    a.2 ∙ ap (λ (e : Entry). line_text (entry_text schema e)) (head_is a.0 b.0 _ _ (sym a.1 ∙ b.1)) ∙ sym b.2
one_reply schema earlier step text again (inl a) (inr b) = absurd (no_growth schema earlier step a.0 b.0 a.1)
one_reply schema earlier step text again (inr a) (inl b) = absurd (no_growth schema earlier step b.0 a.0 b.1)
one_reply schema earlier step text again (inr a) (inr b) = a.1 ∙ sym b.1

one_replies : (schema : SchemaValue) (earlier steps : List WorldStep) (text again : List ℕ) → AreReplies schema earlier steps text
    → AreReplies schema earlier steps again → text ≡ again
one_replies schema earlier [] text again a b = a ∙ sym b
one_replies schema earlier (step ∷ before) text again (front, last, fronts, is, all) (fore, end, fores, was, whole) =
    all ∙ ap (λ (l : List ℕ). l ++ last) (one_replies schema earlier before front fore fronts fores)
    ∙ ap (λ (l : List ℕ). fore ++ l) (one_reply schema (before ++ earlier) step last end is was) ∙ sym whole

-- so that with one list of steps they have one text
carried_text : (schema : SchemaValue) → IsSchema schema → (line : List ℕ) (old new now : List WorldStep) (text again : List ℕ)
    → IsCarriedOut schema line old new text → IsCarriedOut schema line old now again → text ≡ again
carried_text schema is line old new now text again a b =
    let one = one_list schema is line old a.steps b.steps a.head b.head a.asked b.asked in
    let replies : a.replies ≡ b.replies =
    one_replies schema old (reverse b.steps) a.replies b.replies
    (subst (λ (l : List WorldStep). AreReplies schema old (reverse l) a.replies) one.0 a.answered) b.answered in
    a.written ∙ ap (λ (l : List ℕ). line_text l ++ a.replies) one.1 ∙ ap (λ (l : List ℕ). line_text b.head ++ l) replies ∙ sym b.written

next_text : (schema : SchemaValue) → IsSchema schema → (line : List ℕ) (old new now : List WorldStep) (text again : List ℕ)
    → IsAnswer schema line old new text → IsAnswer schema line old now again → text ≡ again
next_text schema is line old new now text again (inl a) (inl b) = a.2 ∙ sym b.2
next_text schema is line old new now text again (inl a) (inr (inl b)) = absurd (a.0.0 b.0 b.1)
next_text schema is line old new now text again (inl a) (inr (inr b)) = absurd (not_bad schema line old b.steps b.head a.0 b.asked)
next_text schema is line old new now text again (inr (inl a)) (inl b) = absurd (b.0.0 a.0 a.1)
next_text schema is line old new now text again (inr (inl a)) (inr (inl b)) =
    one_reply schema old b.0 text again (subst (λ (x : WorldStep). IsReply schema old x text)
    (only_asked schema is line a.0 b.0 a.1 b.1) a.3) b.3
next_text schema is line old new now text again (inr (inl a)) (inr (inr b)) =
    absurd (not_alone schema line old b.steps a.0 b.head a.1 b.asked)
next_text schema is line old new now text again (inr (inr a)) (inl b) = absurd (not_bad schema line old a.steps a.head b.0 a.asked)
next_text schema is line old new now text again (inr (inr a)) (inr (inl b)) =
    absurd (not_alone schema line old a.steps b.0 a.head b.1 a.asked)
next_text schema is line old new now text again (inr (inr a)) (inr (inr b)) = carried_text schema is line old new now text again a b

all_text : (schema : SchemaValue) → IsSchema schema → (lines : List (List ℕ)) (steps others : List WorldStep) (text again : List ℕ)
    → AreAnswers schema lines steps text → AreAnswers schema lines others again → text ≡ again
all_text schema is [] steps others text again a b = a.1 ∙ sym b.1
all_text schema is (line ∷ before) steps others text again a b =
    let same : a.0 ≡ b.0 = all_steps schema is before a.0 b.0 a.1.0 b.1.0 a.1.2 b.1.2 in
    let front : a.1.0 ≡ b.1.0 = all_text schema is before a.0 b.0 a.1.0 b.1.0 a.1.2 b.1.2 in
    let reply : a.1.1 ≡ b.1.1 =
    next_text schema is line b.0 steps others a.1.1 b.1.1
    (subst (λ (l : List WorldStep). IsAnswer schema line l steps a.1.1) same a.1.3) b.1.3 in
    a.1.4 ∙ ap (λ t. t ++ a.1.1) front ∙ ap (λ t. b.1.0 ++ t) reply ∙ sym b.1.4

pub only_text : (schema other : SchemaValue) (steps others : List WorldStep) (lines : List (List ℕ)) (text again : List ℕ)
    → HasText schema steps lines text → HasText other others lines again → (schema ≡ other) × (steps ≡ others)
    × (trace schema steps ≡ trace other others) × (text ≡ again)
only_text schema other steps others lines text again has had =
    let both : has.header ∷ has.behind ≡ had.header ∷ had.behind = sym has.parts ∙ had.parts in
    let header = head_is has.header had.header has.behind had.behind both in
    let behind = tail_is has.header had.header has.behind had.behind both in
    let is : IsSchema schema = schema_of-limits has.header schema has.start in
    let same : schema ≡ other = ok_is (schema_of has.header) schema other has.start (ap schema_of header ∙ had.start) in
    let answers : AreAnswers schema (reverse has.behind) others had.body =
    subst (λ s. AreAnswers s (reverse has.behind) others had.body) (sym same)
    (subst (λ b. AreAnswers other (reverse b) others had.body) (sym behind) had.answers) in
    let all : steps ≡ others = all_steps schema is (reverse has.behind) steps others has.body had.body has.answers answers in
    let body : has.body ≡ had.body = all_text schema is (reverse has.behind) steps others has.body had.body has.answers answers in (
      same,
      all,
      ap (λ s. trace s steps) same ∙ ap (trace other) all,
      has.written ∙ ap (λ h. line_text h ++ has.body) header ∙ ap (λ b. line_text had.header ++ b) body ∙ sym had.written,
    )
