-- The steps of a world of sites, and the one trace that they make (this project). Lists of steps, entries and statements
-- have the newest first, so that the rest of a list is what came before its head.
use Rattle.std.specs.Prelude.{◌≡◌, ℕ, suc, ◌<◌, ◌==◌, false, if◌then◌else◌, List, [], ◌∷◌, length, reverse, Option, Some, None}
use Rattle.field_bounds.specs.declared.id.SiteNo.{SiteNo}
use Rattle.field_bounds.specs.declared.entry.Statement.{Statement}
use Rattle.field_bounds.specs.declared.entry.Command.{Command}
use Rattle.field_bounds.specs.declared.entry.Command.TheVariants.{Accept}
use Rattle.field_bounds.specs.declared.entry.Entry.{Entry}
use Rattle.field_bounds.specs.Schema.{SchemaValue}
use Rattle.field_bounds.specs.Effects.{fresh}
use Rattle.field_bounds.specs.Shape.{is_accept}
use Rattle.field_bounds.specs.Statements.{statement_of}
use Rattle.kept_state.specs.Keeps.{entry_at}
use Rattle.kept_state.specs.declared.luck.Luck.{Luck}
use Rattle.kept_state.specs.Luck.{Lucky, entries, own_lucky, lucky_reply}
use Rattle.world_steps.specs.declared.step.WorldStep.{WorldStep}
use Rattle.world_steps.specs.declared.step.WorldStep.TheVariants.{Do, Deliver}

-- ---- statements and their numbers

-- Statements, with one more where there is one.
abbrev pub with_statement : Option Statement → List Statement → List Statement
with_statement None statements = statements
with_statement (Some statement) statements = statement ∷ statements

-- The statements that a trace issues.
abbrev pub statements_issued : List Entry → List Statement
statements_issued [] = []
statements_issued (e ∷ t) = with_statement (statement_of e) (statements_issued t)

-- The statement of a number, counted from 1 for the oldest.
abbrev pub statement_at : ℕ → List Statement → Option Statement
statement_at k [] = None
statement_at k (statement ∷ older) = if k == suc (length older) then Some statement else statement_at k older

-- ---- what a step asks

-- A statement is delivered: the site that it is for is asked to take it in.
abbrev pub delivery_of : Option Statement → Option (SiteNo × Command)
delivery_of None = None
delivery_of (Some statement) = Some (statement.to, Accept statement)

-- The site and the command of a step that comes after a trace; none where no statement has the number.
abbrev pub question_of : List Entry → WorldStep → Option (SiteNo × Command)
question_of t (Do site command luck) = Some (site, command)
question_of t (Deliver k luck) = delivery_of (statement_at k (statements_issued t))

-- How the append of a step goes.
abbrev pub luck_of : WorldStep → Luck
luck_of (Do site command luck) = luck
luck_of (Deliver k luck) = luck

-- ---- which steps a world takes

-- A command is asked at a site of the schema, and takes in no statement: statements come by delivery alone.
abbrev pub StepFits : SchemaValue → WorldStep → Type 0
StepFits schema (Do site command luck) = (site.0 < schema.sites) × (is_accept command ≡ false)
StepFits schema (Deliver k luck) = Unit {0}

-- ---- what is lived

-- What is lived, with the entry of one more step where it asks something: the command at its site, with the one reply that
-- the site owes after its own entries and their luck, on its fresh base.
abbrev pub with_entry : SchemaValue → Option (SiteNo × Command) → Luck → List Lucky → List Lucky
with_entry schema None luck past = past
with_entry schema (Some who) luck past =
    (entry_at who.0 who.1 (lucky_reply schema who.0.0 (fresh schema who.0.0) (own_lucky who.0.0 past) who.1 luck), luck) ∷ past

-- What is lived by these steps: each entry, with the luck of its step.
abbrev pub world_of : SchemaValue → List WorldStep → List Lucky
world_of schema [] = []
world_of schema (step ∷ earlier) =
    with_entry schema (question_of (entries (world_of schema earlier)) step) (luck_of step) (world_of schema earlier)

-- The one trace of some steps, which stand in order, the oldest first.
abbrev pub trace_by : SchemaValue → List WorldStep → List Entry
trace_by schema steps = entries (world_of schema (reverse steps))
