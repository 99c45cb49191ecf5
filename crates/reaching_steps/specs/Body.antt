-- What the parts of the body do (this project).
use Rattle.std.specs.Prelude.{All, ℤ, unsigned_abs, ◌==◌, if◌then◌else◌, ◌≡◌, Bool, ◌||◌, ℕ, nat_lt, List, [], ◌∷◌, ◌++◌, Option, Some, None, Result, Ok, Err}
use Rattle.field_bounds.specs.declared.id.SiteNo.{SiteNo}
use Rattle.field_bounds.specs.declared.id.FieldNo.{FieldNo}
use Rattle.field_bounds.specs.Schema.{SchemaValue}
use Rattle.field_bounds.specs.Central.{own, at_site, committed_value}
use Rattle.world_steps.specs.World.{StepFits, trace_by}
use Rattle.reaching_steps.specs.Reach.{reach_steps, IsFine, fault_if, fault_at, least, is_down, is_short_of, is_unstated, is_tightened, has_no_number, lies_outside}
use Rattle.field_bounds.specs.declared.kind.Kind.TheVariants.{Lower, Raise}
use Rattle.field_bounds.specs.declared.entry.Entry.{Entry}
use Rattle.field_bounds.specs.Effects.{fresh, cut}
use Rattle.field_bounds.specs.Owed.{place, interval_at}
use Rattle.world_steps.specs.declared.step.WorldStep.{WorldStep}
use Rattle.world_steps.specs.View.{WorldValue}
use Rattle.reaching_steps.specs.Taken.{steps_of, with_steps, TookFront, AreAnswered}
use Rattle.reaching_steps.specs.declared.taken.StepTaken.{StepTaken}
use Rattle.reaching_steps.specs.declared.fault.ReachFault.{ReachFault}
use Rattle.reaching_steps.specs.declared.fault.ReachFault.TheVariants.{NotUp, InFlight, Unstated, Tightened, Numbers, Outside, NoMemory}

-- A fault is the first that holds; of want of memory nothing is said.
abbrev pub Explains : ReachFault → Option ReachFault → Type 0
Explains NoMemory first = Unit {0}
Explains fault first = first ≡ Some fault

-- The trial world and the list of steps taken have both grown by these steps, each with what answered it.
pub record Grew (before : WorldValue) (had : List StepTaken) (more : List WorldStep) (later : WorldValue) (has : List StepTaken)
    : Type 0 where
  pub world : later ≡ with_steps before more
  pub added : List StepTaken
  pub taken : has ≡ had ++ added
  pub steps : steps_of added ≡ more
  pub answered : AreAnswered before added

-- At Ok the trial world and the list have grown by these steps; at want of memory the world has taken a front of them.
abbrev pub CarriedOut : {A E : Type 0} → Result A E → WorldValue → List StepTaken → List WorldStep → WorldValue → List StepTaken → Type 0
CarriedOut (Ok done) before had more later has = Grew before had more later has
CarriedOut (Err fault) before had more later has = TookFront before more later

-- The steps that take a field to the target were taken, and answered so.
pub record HasReached (w : WorldValue) (site : SiteNo) (field : FieldNo) (target : ℤ) (later : WorldValue) (taken : List StepTaken)
    : Type 0 where
  pub steps : steps_of taken ≡ reach_steps w.schema w.steps site field target
  pub world : later ≡ with_steps w (steps_of taken)
  pub answered : AreAnswered w taken

-- A change, where it changes anything.
abbrev pub change_of : ℤ → Option ℤ
change_of z = if unsigned_abs z == 0 then None else Some z

-- What these steps, taken after a world's own, are promised to do: they fit, each append of theirs is whole, nothing is
-- asked at the named site, and the field's committed value is the target.
pub record Does (w : WorldValue) (site : SiteNo) (field : FieldNo) (target : ℤ) (more : List WorldStep) : Type 0 where
  pub fit : All (StepFits w.schema) more
  pub fine : All IsFine more
  pub elsewhere : own site.0 (trace_by w.schema (w.steps ++ more)) ≡ own site.0 (trace_by w.schema w.steps)
  pub reached : committed_value w.schema (trace_by w.schema (w.steps ++ more)) field.0 ≡ target

-- They do, where the world's own steps fit.
abbrev pub DoesWhereFit : WorldValue → SiteNo → FieldNo → ℤ → List WorldStep → Type 0
DoesWhereFit w site field target more = All (StepFits w.schema) w.steps → Does w site field target more

-- The faults from one on, so that a function asks for one alone.
abbrev pub from_outside : SchemaValue → List Entry → SiteNo → FieldNo → ℤ → List (Option ReachFault)
from_outside schema t site field target =
    let interval = interval_at (place schema site.0 (fresh schema site.0) (own site.0 t)) field in
    fault_if (lies_outside interval target) (Outside interval.0 interval.1) ∷ []

abbrev pub from_numbers : SchemaValue → List Entry → SiteNo → FieldNo → ℤ → List (Option ReachFault)
from_numbers schema t site field target = fault_at Numbers (least schema.sites (has_no_number schema t site.0))
    ∷ from_outside schema t site field target

abbrev pub from_tightened : SchemaValue → List Entry → SiteNo → FieldNo → ℤ → List (Option ReachFault)
from_tightened schema t site field target = fault_if (is_tightened schema t field.0) Tightened ∷ from_numbers schema t site field target

-- A site has given up rights on a field for good.
abbrev pub is_cut_at : SchemaValue → List Entry → ℕ → ℕ → Bool
is_cut_at schema t f s =
    nat_lt 0 (cut (fresh schema s) f Lower (at_site schema t s)) || nat_lt 0 (cut (fresh schema s) f Raise (at_site schema t s))

abbrev pub is_untold_to : SchemaValue → List Entry → SiteNo → FieldNo → ℕ → Bool
is_untold_to schema t site field to = is_unstated schema t field.0 site.0 to Lower || is_unstated schema t field.0 site.0 to Raise

abbrev pub from_unstated : SchemaValue → List Entry → SiteNo → FieldNo → ℤ → List (Option ReachFault)
from_unstated schema t site field target = fault_at Unstated (least schema.sites (is_untold_to schema t site field))
    ∷ from_tightened schema t site field target

abbrev pub is_short_from : SchemaValue → List Entry → SiteNo → FieldNo → ℕ → Bool
is_short_from schema t site field from = is_short_of schema t field.0 site.0 from Lower || is_short_of schema t field.0 site.0 from Raise

abbrev pub from_flight : SchemaValue → List Entry → SiteNo → FieldNo → ℤ → List (Option ReachFault)
from_flight schema t site field target = fault_at InFlight (least schema.sites (is_short_from schema t site field))
    ∷ from_unstated schema t site field target

abbrev pub from_up : SchemaValue → List Entry → SiteNo → FieldNo → ℤ → List (Option ReachFault)
from_up schema t site field target = fault_at NotUp (least schema.sites (is_down schema t)) ∷ from_flight schema t site field target
