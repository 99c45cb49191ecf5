-- Steps that look at the trace by then, one after another.
use Rattle.std.proofs.Common.{◌≡◌, ℕ, zero, suc, ◌<◌, List, [], ◌∷◌, ◌++◌, sym, ◌∙◌, ap, subst, arith, All}
use Rattle.std.proofs.lemmas.List.{append_assoc, append-nil}
use Rattle.std.proofs.lemmas.List.Elements.{All-append, All-nil, All-cons}
use Rattle.field_bounds.specs.declared.entry.Entry.{Entry}
use Rattle.field_bounds.specs.Schema.{SchemaValue}
use Rattle.world_steps.specs.declared.step.WorldStep.{WorldStep}
use Rattle.field_bounds.specs.Limits.{IsSchema}
use Rattle.field_bounds.specs.Central.{IsSound}
use Rattle.world_steps.specs.World.{StepFits, trace_by}
use Rattle.world_steps.proofs.Living.{one_store_of}
use Rattle.reaching_steps.specs.Reach.{Task, steps_of_tasks, over_sites, IsFine}

-- the trace of steps that fit is sound
pub sound_of : (schema : SchemaValue) → IsSchema schema → (steps : List WorldStep) → All (StepFits schema) steps
    → IsSound schema (trace_by schema steps)
sound_of schema good steps fit = (one_store_of schema good steps fit).sound

abbrev pub Claim : Type 1
Claim = List Entry → Type 0

module _ (schema : SchemaValue) where
  -- after these steps, those may be taken, each append of theirs is whole, and then the claim holds of the trace
  pub record Went (steps more : List WorldStep) (claim : Claim) : Type 0 where
    pub fit : All (StepFits schema) more
    pub fine : All IsFine more
    pub then : claim (trace_by schema (steps ++ more))

pub went_none : {schema : SchemaValue} {steps : List WorldStep} {Q : Claim} → Q (trace_by schema steps) → Went schema steps [] Q
went_none {schema} {steps} {Q} q =
    record {
      fit = All-nil (StepFits schema);
      fine = All-nil IsFine;
      then = subst (λ (l : List WorldStep). Q (trace_by schema l)) (sym (append-nil steps)) q;
    }

pub went_one : {schema : SchemaValue} {steps : List WorldStep} {step : WorldStep} {Q : Claim} → StepFits schema step → IsFine step
    → Q (trace_by schema (steps ++ step ∷ [])) → Went schema steps (step ∷ []) Q
went_one {schema} {step} fit fine q = record {
  fit = All-cons (StepFits schema) step [] fit (All-nil (StepFits schema));
  fine = All-cons IsFine step [] fine (All-nil IsFine);
  then = q;
}

-- one list of steps after another
pub went_on : {schema : SchemaValue} {steps more rest : List WorldStep} {P Q : Claim} → All (StepFits schema) steps
    → Went schema steps more P
    → (All (StepFits schema) (steps ++ more) → P (trace_by schema (steps ++ more)) → Went schema (steps ++ more) rest Q)
    → Went schema steps (more ++ rest) Q
went_on {schema} {steps} {more} {rest} {Q} fit went next =
    let later = next (All-append (StepFits schema) steps more fit went.fit) went.then in
    record {
      fit = All-append (StepFits schema) more rest went.fit later.fit;
      fine = All-append IsFine more rest went.fine later.fine;
      then = subst (λ (l : List WorldStep). Q (trace_by schema l)) (append_assoc steps more rest) later.then;
    }

pub went_as : {schema : SchemaValue} {steps more : List WorldStep} {P Q : Claim} → Went schema steps more P
    → (P (trace_by schema (steps ++ more)) → Q (trace_by schema (steps ++ more))) → Went schema steps more Q
went_as went weaker = record { fit = went.fit; fine = went.fine; then = weaker went.then }

pub went_same : {schema : SchemaValue} {steps more others : List WorldStep} {Q : Claim} → more ≡ others → Went schema steps more Q
    → Went schema steps others Q
went_same {schema} {steps} {Q} same went = subst (λ (l : List WorldStep). Went schema steps l Q) same went

module _ (schema : SchemaValue) where
  -- tasks that lead from one claim to another
  abbrev pub Leads : Claim → Claim → List Task → Type 0
  Leads P Q tasks = (steps : List WorldStep) → All (StepFits schema) steps → P (trace_by schema steps)
      → Went schema steps (steps_of_tasks schema steps tasks) Q

  pub leads_none : (P : Claim) → Leads P P []
  leads_none P steps fit p = went_none p

  pub leads_first : (P Q R : Claim) (task : Task) (tasks : List Task)
      → ((steps : List WorldStep) → All (StepFits schema) steps → P (trace_by schema steps) → Went schema steps (task (trace_by schema steps)) Q)
      → Leads Q R tasks → Leads P R (task ∷ tasks)
  leads_first P Q R task tasks one rest steps fit p =
      went_on fit (one steps fit p) (λ fits q. rest (steps ++ task (trace_by schema steps)) fits q)

  pub leads_task : (P Q : Claim) (task : Task)
      → ((steps : List WorldStep) → All (StepFits schema) steps → P (trace_by schema steps) → Went schema steps (task (trace_by schema steps)) Q)
      → Leads P Q (task ∷ [])
  leads_task P Q task one = leads_first P Q Q task [] one (leads_none Q)

  pub planned_append : (steps : List WorldStep) (a b : List Task)
      → steps_of_tasks schema steps (a ++ b) ≡ steps_of_tasks schema steps a
      ++ steps_of_tasks schema (steps ++ steps_of_tasks schema steps a) b
  planned_append steps [] b = ap (λ (l : List WorldStep). steps_of_tasks schema l b) (sym (append-nil steps))
  planned_append steps (task ∷ a) b =
      let more = task (trace_by schema steps) in
      let rest = steps_of_tasks schema (steps ++ more) a in
      ap (λ (l : List WorldStep). more ++ l) (planned_append (steps ++ more) a b)
      ∙ sym (append_assoc more rest (steps_of_tasks schema ((steps ++ more) ++ rest) b))
      ∙ ap (λ (l : List WorldStep). (more ++ rest) ++ steps_of_tasks schema l b) (append_assoc steps more rest)

  pub leads_on : (P Q R : Claim) (a b : List Task) → Leads P Q a → Leads Q R b → Leads P R (a ++ b)
  leads_on P Q R a b first next steps fit p =
      went_same (sym (planned_append steps a b))
      (went_on fit (first steps fit p) (λ fits q. next (steps ++ steps_of_tasks schema steps a) fits q))

  -- for each site in turn
  pub leads_over : (I : ℕ → Claim) (n : ℕ) (f : ℕ → List Task) → ((i : ℕ) → i < n → Leads (I i) (I (suc i)) (f i))
      → Leads (I 0) (I n) (over_sites n f)
  leads_over I zero f each = leads_none (I 0)
  leads_over I (suc n) f each =
      leads_on (I 0) (I n) (I (suc n)) (over_sites n f) (f n) (leads_over I n f (λ i below. each i (omega (arith, below))))
      (each n (omega arith))
