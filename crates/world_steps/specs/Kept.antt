-- What a world keeps of its steps beside its trace, and the steps that both tell (this project).
use Rattle.std.specs.Prelude.{◌≡◌, ℕ, ◌<◌, List, [], ◌∷◌, reverse, Option, Some, None, vec_len, vec_capacity}
use Rattle.field_bounds.specs.declared.entry.Entry.{Entry}
use Rattle.kept_state.specs.declared.luck.Luck.TheVariants.{Fine, Torn}
use Rattle.world_steps.specs.declared.step.WorldStep.{WorldStep}
use Rattle.world_steps.specs.declared.step.WorldStep.TheVariants.{Do, Deliver}
use Rattle.world_steps.specs.declared.beside_trace.Way.{Way}
use Rattle.world_steps.specs.declared.beside_trace.Way.TheVariants.{Asked, AskedTorn, Delivered, DeliveredTorn, Missed, MissedTorn}
use Rattle.world_steps.specs.declared.beside_trace.StepNotes.{StepNotes}

-- What is said of the first of a list and of the rest, and no steps where the list is empty.
abbrev pub with_first : {A : Type 0} → List A → (A → List A → List WorldStep) → List WorldStep
with_first [] steps = []
with_first (x ∷ rest) steps = steps x rest

-- The steps of a trace that went these ways: each command is that of the next entry, each delivery has the next number and,
-- unless it was missed, the next entry too, and each torn luck keeps the next count of bytes. All have the newest first.
abbrev pub steps_told : List Entry → List Way → List ℕ → List ℕ → List WorldStep
steps_told trace [] numbers torn = []
steps_told trace (Asked ∷ ways) numbers torn =
    with_first trace (λ e earlier. Do e.site e.command Fine ∷ steps_told earlier ways numbers torn)
steps_told trace (AskedTorn ∷ ways) numbers torn =
    with_first trace (λ e earlier. with_first torn
    (λ bytes others. Do e.site e.command (Torn bytes) ∷ steps_told earlier ways numbers others))
steps_told trace (Delivered ∷ ways) numbers torn =
    with_first trace (λ e earlier. with_first numbers (λ k more. Deliver k Fine ∷ steps_told earlier ways more torn))
steps_told trace (DeliveredTorn ∷ ways) numbers torn =
    with_first trace (λ e earlier. with_first numbers
    (λ k more. with_first torn (λ bytes others. Deliver k (Torn bytes) ∷ steps_told earlier ways more others)))
steps_told trace (Missed ∷ ways) numbers torn =
    with_first numbers (λ k more. Deliver k Fine ∷ steps_told trace ways more torn)
steps_told trace (MissedTorn ∷ ways) numbers torn =
    with_first numbers (λ k more. with_first torn (λ bytes others. Deliver k (Torn bytes) ∷ steps_told trace ways more others))

-- Steps, with one more where there is one; none where there isn't.
abbrev pub with_step : Option WorldStep → List WorldStep → List WorldStep
with_step None steps = []
with_step (Some step) steps = step ∷ steps

-- The same, of a trace and of what is kept beside it, which have the oldest first, as the steps then have.
abbrev pub steps_beside : List Entry → StepNotes → List WorldStep
steps_beside trace kept =
    reverse (steps_told (reverse trace) (reverse kept.ways.items) (reverse kept.numbers.items) (reverse kept.torn.items))

-- The same is kept.
pub record SameKept (before later : StepNotes) : Type 0 where
  pub ways : later.ways.items ≡ before.ways.items
  pub numbers : later.numbers.items ≡ before.numbers.items
  pub torn : later.torn.items ≡ before.torn.items

-- There is room for what is kept of one more step.
abbrev pub HasMemoryFor : StepNotes → WorldStep → Type 0
HasMemoryFor kept (Do site command Fine) = vec_len kept.ways < vec_capacity kept.ways
HasMemoryFor kept (Do site command (Torn bytes)) =
    (vec_len kept.ways < vec_capacity kept.ways) × (vec_len kept.torn < vec_capacity kept.torn)
HasMemoryFor kept (Deliver k Fine) =
    (vec_len kept.ways < vec_capacity kept.ways) × (vec_len kept.numbers < vec_capacity kept.numbers)
HasMemoryFor kept (Deliver k (Torn bytes)) =
    (vec_len kept.ways < vec_capacity kept.ways) × (vec_len kept.numbers < vec_capacity kept.numbers)
    × (vec_len kept.torn < vec_capacity kept.torn)
