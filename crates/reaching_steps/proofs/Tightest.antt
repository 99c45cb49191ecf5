-- Each value of an interval is reached.
use Rattle.std.proofs.Common.{◌≡◌, false, List, [], ◌∷◌, ◌++◌, refl, arith, Option, Some, None, All}
use Rattle.std.proofs.lemmas.Bool.{le-ltb}
use Rattle.std.proofs.lemmas.Int.{ints}
use Rattle.std.specs.Prelude.{ℤ, pos, negsuc, ◌≤ℤ◌, int_lt, Result, Ok, Err, IfErr}
use Rattle.field_bounds.specs.declared.id.SiteNo.{SiteNo}
use Rattle.field_bounds.specs.declared.id.FieldNo.{FieldNo}
use Rattle.field_bounds.specs.declared.entry.Entry.{Entry}
use Rattle.field_bounds.specs.Schema.{SchemaValue}
use Rattle.field_bounds.specs.Limits.{IsSchema}
use Rattle.field_bounds.specs.Effects.{fresh}
use Rattle.field_bounds.specs.Owed.{place, interval_at}
use Rattle.field_bounds.specs.Central.{own}
use Rattle.world_steps.specs.declared.step.WorldStep.{WorldStep}
use Rattle.world_steps.specs.World.{StepFits, trace_by}
use Rattle.reaching_steps.specs.declared.fault.ReachFault.{ReachFault}
use Rattle.reaching_steps.specs.declared.fault.ReachFault.TheVariants.{NoMemory, Outside}
use Rattle.reaching_steps.specs.Reach.{first_fault, fault_if, lies_outside, reach_fault, reach_steps}
use Rattle.reaching_steps.specs.Tight.{hindrances, IsUnhindered, LiesWithin}
use Rattle.reaching_steps.specs.Body.{Does, Explains}
use Rattle.reaching_steps.proofs.Growing.{does}

not_below : (x y : ℤ) → y ≤ℤ x → int_lt x y ≡ false
not_below (pos a) (pos b) h = le-ltb a b (omega (arith, ints, h))
not_below (pos a) (negsuc b) h = refl
not_below (negsuc a) (pos b) h = absurd (omega (arith, ints, h))
not_below (negsuc a) (negsuc b) h = le-ltb b a (omega (arith, ints, h))

-- a fault behind others, none of which holds
behind : (faults : List (Option ReachFault)) (last : Option ReachFault) → first_fault faults ≡ None → last ≡ None
    → first_fault (faults ++ last ∷ []) ≡ None
behind [] None h none = refl
behind [] (Some fault) h none = none
behind (None ∷ rest) last h none = behind rest last h none
behind (Some fault ∷ rest) last h none = cc

-- where nothing stands in the way of a value within, no fault holds
unhindered_clear : (schema : SchemaValue) (t : List Entry) (site : SiteNo) (field : FieldNo) (target : ℤ)
    → IsUnhindered schema t site field → LiesWithin schema t site field target → reach_fault schema t site field target ≡ None
unhindered_clear schema t site field target free within =
    let interval = interval_at (place schema site.0 (fresh schema site.0) (own site.0 t)) field in
    behind (hindrances schema t site field) (fault_if (lies_outside interval target) (Outside interval.0 interval.1)) free
    (rw (not_below target interval.0 within.0, not_below interval.1 target within.1) refl)

-- a fault that is told where none holds is want of memory
memory_alone : (fault : ReachFault) (first : Option ReachFault) → Explains fault first → first ≡ None → fault ≡ NoMemory
memory_alone NoMemory first told none = refl
memory_alone fault first told none = cc

pub only_memory : {T : Type 0} (r : Result T ReachFault) (schema : SchemaValue) (t : List Entry) (site : SiteNo) (field : FieldNo)
    (target : ℤ)
    → IfErr r (λ fault. Explains fault (reach_fault schema t site field target))
    → IfErr r (λ fault. IsUnhindered schema t site field → LiesWithin schema t site field target → fault ≡ NoMemory)
only_memory (Ok taken) schema t site field target told = tt
only_memory (Err fault) schema t site field target told =
    λ free within.
    memory_alone fault (reach_fault schema t site field target) told (unhindered_clear schema t site field target free within)

module _ (schema : SchemaValue) (good : IsSchema schema) (steps : List WorldStep) (fit : All (StepFits schema) steps) (site : SiteNo)
    (field : FieldNo) (target : ℤ)
    (free : IsUnhindered schema (trace_by schema steps) site field)
    (within : LiesWithin schema (trace_by schema steps) site field target) where
  clear : reach_fault schema (trace_by schema steps) site field target ≡ None
  clear = unhindered_clear schema (trace_by schema steps) site field target free within

  pub value_is_reached : (more : List WorldStep) × Does (record { schema = schema; steps = steps }) site field target more
  value_is_reached = (
    reach_steps schema steps site field target,
    does (record { schema = schema; steps = steps }) site field target
        (reach_steps schema steps site field target) good fit clear refl,
  )
