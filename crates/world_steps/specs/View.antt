-- The world as its callers see it, and what holds of each world (this project).
use Rattle.std.specs.Prelude.{◌≡◌, List, ◌∷◌, length, reverse, All, None}
use Rattle.field_bounds.specs.declared.entry.Statement.{Statement}
use Rattle.field_bounds.specs.declared.entry.Entry.{Entry}
use Rattle.field_bounds.specs.Schema.{SchemaValue}
use Rattle.field_bounds.specs.Limits.{IsSchema}
use Rattle.kept_state.specs.Luck.{Lucky}
use Rattle.site_step.specs.Site.{SiteValue}
use Rattle.world_steps.specs.declared.step.WorldStep.{WorldStep}
use Rattle.world_steps.specs.declared.step.StepReply.{StepReply}
use Rattle.world_steps.specs.declared.step.StepReply.TheVariants.{Made, NoStatement}
use Rattle.world_steps.specs.World.{statements_issued, question_of, luck_of, StepFits, world_of, trace_by}
use Rattle.world_steps.specs.Standing.{AllFollow}

-- A world is its schema and the steps taken, the oldest first.
pub record WorldValue : Type 0 where
  pub schema : SchemaValue
  pub steps : List WorldStep

-- What it has lived, the newest first.
abbrev pub lucky_trace : WorldValue → List Lucky
lucky_trace w = world_of w.schema (reverse w.steps)

-- Its trace, the newest entry first.
abbrev pub trace_of : WorldValue → List Entry
trace_of w = trace_by w.schema w.steps

-- What a step answers, where the world was before it and is later: the one entry by which what was lived has grown, with
-- the step's luck; or none, where the step asks nothing and nothing was lived.
abbrev pub Answers : StepReply → WorldValue → WorldStep → WorldValue → Type 0
Answers (Made entry) before step later = lucky_trace later ≡ (entry, luck_of step) ∷ lucky_trace before
Answers NoStatement before step later = (question_of (trace_of before) step ≡ None) × (lucky_trace later ≡ lucky_trace before)

-- What holds of a world: the steps taken fit its schema, there is a site for each of the schema's, each stands where what
-- was lived leaves it, and trace and statements, the oldest first, are those that the steps make.
pub record IsWorld (schema : SchemaValue) (steps : List WorldStep) (sites : List SiteValue) (trace : List Entry)
    (told : List Statement) : Type 0 where
  pub good : IsSchema schema
  pub fit : All (StepFits schema) steps
  pub count : length sites ≡ schema.sites
  pub stand : AllFollow schema (world_of schema (reverse steps)) (length trace) sites
  pub trace_is : reverse trace ≡ trace_by schema steps
  pub told_is : reverse told ≡ statements_issued (trace_by schema steps)
