-- What a script writes for the lines that it reads (this project). Lists of lines, of steps and of entries here have the
-- newest first.
use Rattle.std.specs.Prelude.{◌≡◌, ℕ, ℤ, ◌^◌, ◌<◌, ◌≤◌, ◌⊎◌, List, [], ◌∷◌, ◌++◌, length, reverse, Option, Some, None, Ok, codes}
use Rattle.std.specs.Fmt.{decimal}
use Rattle.field_bounds.specs.Schema.{SchemaValue}
use Rattle.field_bounds.specs.Header.{schema_of}
use Rattle.field_bounds.specs.declared.entry.Entry.{Entry}
use Rattle.field_bounds.specs.declared.kind.Kind.{Kind}
use Rattle.field_bounds.specs.declared.id.FieldNo.{FieldNo}
use Rattle.field_bounds.specs.declared.id.SiteNo.{SiteNo}
use Rattle.line_words.specs.Reading.{◌>>=◌, number_of, signed_of, word_at}
use Rattle.entry_text.specs.Spelling.{command_text, entry_text}
use Rattle.entry_text.specs.Ranges.{SiteFits, CommandFits}
use Rattle.entry_text.specs.Reading.{site_of, kind_of, field_of, Reader, one_word, two_words, three_words, read_beside}
use Rattle.entry_text.specs.Lines.{max_line}
use Rattle.kept_state.specs.declared.luck.Luck.{Luck}
use Rattle.kept_state.specs.declared.luck.Luck.TheVariants.{Fine, Torn}
use Rattle.kept_state.specs.Luck.{entries}
use Rattle.world_steps.specs.declared.step.WorldStep.{WorldStep}
use Rattle.world_steps.specs.declared.step.WorldStep.TheVariants.{Do, Deliver}
use Rattle.world_steps.specs.World.{question_of, luck_of, StepFits, world_of}
use Rattle.world_steps.specs.Promises.{IsOneStore}
use Rattle.reaching_steps.specs.declared.fault.ReachFault.{ReachFault}
use Rattle.reaching_steps.specs.Reach.{reach_steps, reach_fault}
use Rattle.escrow_run.specs.declared.aim.Aim.{Aim}
use Rattle.escrow_run.specs.declared.line.Line.{Line}
use Rattle.escrow_run.specs.declared.line.Line.TheVariants.{Step, Level, Reach}
use Rattle.escrow_run.specs.Level.{level_text, level_gifts}
use Rattle.escrow_run.specs.Reach.{reach_text, AimFits, IsReason}

-- A line and its LF (10).
abbrev pub line_text : List ℕ → List ℕ
line_text line = line ++ 10 ∷ []

-- ---- the line of a step

-- What a step asks: a command, or the taking in of a statement by its number.
abbrev pub plain_text : SchemaValue → WorldStep → List ℕ
plain_text schema (Do site command luck) = command_text schema site command
plain_text schema (Deliver k luck) = codes "deliver " ++ decimal k

-- How its append goes: nothing where it is whole, and else how many bytes are kept.
abbrev pub luck_text : Luck → List ℕ
luck_text Fine = []
luck_text (Torn bytes) = codes " torn " ++ decimal bytes

-- The line of a step.
abbrev pub step_text : SchemaValue → WorldStep → List ℕ
step_text schema step = plain_text schema step ++ luck_text (luck_of step)

-- The bytes that are kept are a u64.
abbrev pub LuckFits : Luck → Type 0
LuckFits Fine = Unit {0}
LuckFits (Torn bytes) = bytes < 2 ^ 64

-- What a step names fits, and the number of a statement is a u64.
abbrev pub NumbersFit : WorldStep → Type 0
NumbersFit (Do site command luck) = SiteFits site × CommandFits command × LuckFits luck
NumbersFit (Deliver k luck) = (k < 2 ^ 64) × LuckFits luck

-- ---- the line of each kind

-- The levelling of a field.
abbrev pub levelling : FieldNo → Kind → Line
levelling field kind = Level (record { field = field; kind = kind })

-- The reaching for a value.
abbrev pub reaching : SiteNo → FieldNo → ℤ → Line
reaching site field target = Reach (record { site = site; field = field; target = target })

-- The line that asks it.
abbrev pub asked_text : SchemaValue → Line → List ℕ
asked_text schema (Step step) = step_text schema step
asked_text schema (Level level) = level_text schema level.field level.kind
asked_text schema (Reach aim) = reach_text schema aim

-- What it names fits.
abbrev pub AskedFits : Line → Type 0
AskedFits (Step step) = NumbersFit step
AskedFits (Level level) = Unit {0}
AskedFits (Reach aim) = AimFits aim

-- A world of the schema takes it: the site of a step is in the schema, and it is no acceptance, for a statement reaches a
-- site only as it was issued; and so are the field that is levelled, and the site and the field of what is reached for.
abbrev pub IsTaken : SchemaValue → Line → Type 0
IsTaken schema (Step step) = StepFits schema step
IsTaken schema (Level level) = level.field.0 < length schema.fields
IsTaken schema (Reach aim) = (aim.site.0 < schema.sites) × (aim.field.0 < length schema.fields)

-- A line behind the header asks it: it is its line, which isn't too long, and a world of the schema takes it.
pub record IsAsked (schema : SchemaValue) (line : List ℕ) (asked : Line) : Type 0 where
  pub text : line ≡ asked_text schema asked
  pub numbers : AskedFits asked
  pub short : length line ≤ max_line
  pub fits : IsTaken schema asked

-- A line asks a step.
abbrev pub Asks : SchemaValue → List ℕ → WorldStep → Type 0
Asks schema line step = IsAsked schema line (Step step)

-- A line levels the rights of a kind on a field.
abbrev pub Levels : SchemaValue → List ℕ → FieldNo → Kind → Type 0
Levels schema line field kind = IsAsked schema line (levelling field kind)

-- A line reaches for a value.
abbrev pub Aims : SchemaValue → List ℕ → Aim → Type 0
Aims schema line aim = IsAsked schema line (Reach aim)

-- A line asks no step.
abbrev pub AsksNone : SchemaValue → List ℕ → Type 0
AsksNone schema line = (step : WorldStep) → Asks schema line step → ⊥

-- A line levels no field.
abbrev pub LevelsNone : SchemaValue → List ℕ → Type 0
LevelsNone schema line = (field : FieldNo) (kind : Kind) → Levels schema line field kind → ⊥

-- A line reaches for nothing.
abbrev pub AimsNone : SchemaValue → List ℕ → Type 0
AimsNone schema line = (aim : Aim) → Aims schema line aim → ⊥

-- A bad line does none of these.
abbrev pub IsBad : SchemaValue → List ℕ → Type 0
IsBad schema line = AsksNone schema line × LevelsNone schema line × AimsNone schema line

-- ---- a line that begins with a name, read word by word

-- The word of luck, and how many bytes are kept.
abbrev pub luck_table : List (List ℕ × Reader Luck)
luck_table = (codes "torn", one_word (number_of (2 ^ 64)) Torn) ∷ []

-- How an append goes, by the words that are left: it is whole where none is.
abbrev pub luck_at : Reader Luck
luck_at [] = Some (Fine, [])
luck_at (w ∷ ws) = read_beside luck_table w ws

-- A delivery.
abbrev pub delivery_at : Reader Line
delivery_at ws = do
  k ← word_at (number_of (2 ^ 64)) ws
  luck ← luck_at k.1
  Some (Step (Deliver k.0 luck.0), luck.1)

-- The names, each with what is read behind it.
abbrev pub line_table : SchemaValue → List (List ℕ × Reader Line)
line_table schema =
    (codes "deliver", delivery_at)
    ∷ (codes "level", two_words (field_of schema) kind_of levelling)
    ∷ (codes "reach", three_words site_of (field_of schema) signed_of reaching)
    ∷ []

-- ---- what answers it

-- The trace of steps: the entries that they make in a world of the schema.
abbrev pub trace : SchemaValue → List WorldStep → List Entry
trace schema steps = entries (world_of schema steps)

-- What remarks a step that makes no entry, since no statement has its number.
abbrev pub remark_text : SchemaValue → WorldStep → List ℕ
remark_text schema step = plain_text schema step ++ codes " -> refused 16 no statement"

-- What answers a step that comes after earlier ones: the text of the one entry by which the trace grows, or the remark
-- where the step asks no site anything.
abbrev pub IsReply : SchemaValue → List WorldStep → WorldStep → List ℕ → Type 0
IsReply schema earlier step text =
    ((entry : Entry) × (trace schema (step ∷ earlier) ≡ entry ∷ trace schema earlier) × (text ≡ line_text (entry_text schema entry)))
    ⊎ ((question_of (trace schema earlier) step ≡ None) × (text ≡ line_text (remark_text schema step)))

-- What answers steps that come after earlier ones, one after another.
abbrev pub AreReplies : SchemaValue → List WorldStep → List WorldStep → List ℕ → Type 0
AreReplies schema earlier [] text = text ≡ []
AreReplies schema earlier (step ∷ before) text =
    (front last : List ℕ) × AreReplies schema earlier before front × IsReply schema (before ++ earlier) step last × (text ≡ front ++ last)

-- What says how many gifts level a field.
abbrev pub moves_text : SchemaValue → FieldNo → Kind → ℕ → List ℕ
moves_text schema field kind count = level_text schema field kind ++ codes " -> moves " ++ decimal count

-- What a line asks that levels a field, where earlier steps were taken: the gifts, headed by their count.
pub record AsksLevel (schema : SchemaValue) (line : List ℕ) (earlier steps : List WorldStep) (head : List ℕ) : Type 0 where
  pub field : FieldNo
  pub kind : Kind
  pub levels : Levels schema line field kind
  pub steps_are : steps ≡ level_gifts schema (trace schema earlier) field kind
  pub head_is : head ≡ moves_text schema field kind (length steps)

-- What is taken to reach a value, by the first fault that there is: where there is none, the steps at the other sites,
-- headed by their count; else no step, headed by the reason.
abbrev pub IsReached : SchemaValue → Aim → List WorldStep → Option ReachFault → List WorldStep → List ℕ → Type 0
IsReached schema aim earlier None steps head =
    (steps ≡ reach_steps schema (reverse earlier) aim.site aim.field aim.target)
    × (head ≡ reach_text schema aim ++ codes " -> steps " ++ decimal (length steps))
IsReached schema aim earlier (Some fault) steps head =
    (steps ≡ []) × ((word : List ℕ) × IsReason fault word × (head ≡ reach_text schema aim ++ codes " -> no " ++ word))

-- What a line asks that reaches for a value, where earlier steps were taken.
pub record AsksReach (schema : SchemaValue) (line : List ℕ) (earlier steps : List WorldStep) (head : List ℕ) : Type 0 where
  pub aim : Aim
  pub aims : Aims schema line aim
  pub reached : IsReached schema aim earlier (reach_fault schema (trace schema earlier) aim.site aim.field aim.target) steps head

-- The steps that a line asks together, where earlier steps were taken, and the head of what answers it.
abbrev pub AsksSteps : SchemaValue → List ℕ → List WorldStep → List WorldStep → List ℕ → Type 0
AsksSteps schema line earlier steps head =
    AsksLevel schema line earlier steps head ⊎ AsksReach schema line earlier steps head

-- What answers a line that asks steps together, and the steps before and after it: the head, and then what answers each
-- step.
pub record IsCarriedOut (schema : SchemaValue) (line : List ℕ) (old new : List WorldStep) (text : List ℕ) : Type 0 where
  pub steps : List WorldStep
  pub head : List ℕ
  pub replies : List ℕ
  pub asked : AsksSteps schema line old steps head
  pub taken : new ≡ reverse steps ++ old
  pub answered : AreReplies schema old (reverse steps) replies
  pub written : text ≡ line_text head ++ replies

-- What answers a line, and the steps before and after it: a bad line is answered by `bad line`, a line that asks a step by
-- what answers that one more step, and a line that levels a field or reaches for a value by what answers its steps.
abbrev pub IsAnswer : SchemaValue → List ℕ → List WorldStep → List WorldStep → List ℕ → Type 0
IsAnswer schema line old new text =
    (IsBad schema line × (new ≡ old) × (text ≡ line_text (codes "bad line")))
    ⊎ (((step : WorldStep) × Asks schema line step × (new ≡ step ∷ old) × IsReply schema old step text)
    ⊎ IsCarriedOut schema line old new text)

-- What answers lines, one after another.
abbrev pub AreAnswers : SchemaValue → List (List ℕ) → List WorldStep → List ℕ → Type 0
AreAnswers schema [] steps text = (steps ≡ []) × (text ≡ [])
AreAnswers schema (line ∷ before) steps text =
    (old : List WorldStep) × ((front last : List ℕ) × AreAnswers schema before old front × IsAnswer schema line old steps last
    × (text ≡ front ++ last))

-- The text of lines, the oldest first: the header line as it was read, and an answer for each line behind it, by the one
-- trace of the steps that the lines ask, in their order. The trace is one of a world, a run of one central store.
pub record HasText (schema : SchemaValue) (steps : List WorldStep) (lines : List (List ℕ)) (text : List ℕ) : Type 0 where
  pub header : List ℕ
  pub behind : List (List ℕ)
  pub body : List ℕ
  pub parts : lines ≡ header ∷ behind
  pub start : schema_of header ≡ Ok schema
  pub answers : AreAnswers schema (reverse behind) steps body
  pub one_store : IsOneStore schema (trace schema steps)
  pub written : text ≡ line_text header ++ body

-- The text of lines by some schema and steps, or nothing for no line.
abbrev pub IsTextOf : List (List ℕ) → List ℕ → Type 0
IsTextOf lines text =
    ((lines ≡ []) × (text ≡ [])) ⊎ ((schema : SchemaValue) × ((steps : List WorldStep) × HasText schema steps lines text))
