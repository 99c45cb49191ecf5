-- What the parts of a run do to its state, and what a run reads and writes (this project).
use Rattle.std.specs.Prelude.{◌≡◌, ◌≢◌, ℕ, ◌<◌, List, [], ◌++◌, ◌⊎◌, Bool, true, false, Option, reverse}
use Rattle.std.specs.Io.KnownBytes.{Appends, Consumes, IsAtEnd}
use Rattle.field_bounds.specs.Schema.{SchemaValue}
use Rattle.escrow_run.specs.declared.script.Script.{Script}
use Rattle.script_input.specs.declared.fault.ScriptFault.{ScriptFault}
use Rattle.script_input.specs.declared.fault.ScriptFault.TheVariants.{Read, TooLong, Write, Header, BadLine, Work, Stuck, Illegal, NoMemory}
use Rattle.script_input.specs.declared.streams.CallEnd.{CallEnd}
use Rattle.entry_text.specs.Lines.{max_line}
use Rattle.escrow_run.specs.Text.{AreReplies, IsAnswer, HasText, IsTextOf}
use Rattle.world_steps.specs.declared.step.WorldStep.{WorldStep}
use Rattle.world_steps.specs.View.{WorldValue, Answers as AnswersStep}
use Rattle.reaching_steps.specs.declared.taken.StepTaken.{StepTaken}
use Rattle.reaching_steps.specs.Taken.{steps_of, with_steps, AreAnswered}
use Rattle.script_input.specs.Lines.{whole_lines, script_lines}
use Rattle.script_input.specs.Reader.{passed_over, Reads, GaveAll, StopsAt}
use Rattle.script_input.specs.Faults.{HasEndedAt, IsWithin, Explains}
use Rattle.script_input.specs.Streams.{AppendsPrefix}

-- What a world does with a line, and what is to be written before and after it: its schema stays, and what is written
-- grows by what answers the line, by the steps before and after it.
pub record Answered (line : List ℕ) (old new : WorldValue) (out grown : List ℕ) : Type 0 where
  pub text : List ℕ
  pub schema : new.schema ≡ old.schema
  pub answer : IsAnswer old.schema line (reverse old.steps) (reverse new.steps) text
  pub written : grown ≡ out ++ text

-- A world has taken steps, and what is to be written has grown by what answers them.
pub record HasTaken (steps : List WorldStep) (old new : WorldValue) (out grown : List ℕ) : Type 0 where
  pub replies : List ℕ
  pub taken : new ≡ record old { steps = old.steps ++ steps }
  pub answered : AreReplies old.schema (reverse old.steps) (reverse steps) replies
  pub written : grown ≡ out ++ replies

-- Some world answered a step so.
abbrev pub IsAnswered : StepTaken → Type 0
IsAnswered one = (old : WorldValue) × ((new : WorldValue) × AnswersStep one.reply old one.step new)

-- What is to be written has grown by what answers steps, by whatever world of the schema they were taken and answered so.
abbrev pub Tells : SchemaValue → List StepTaken → List ℕ → List ℕ → Type 0
Tells schema taken out grown =
    (old : WorldValue) → old.schema ≡ schema → AreAnswered old taken
    → HasTaken (steps_of taken) old (with_steps old (steps_of taken)) out grown

-- The output is written.
pub record HasWritten (old new : Script) : Type 0 where
  pub machine : new.machine ≡ old.machine
  pub lines : new.lines ≡ old.lines
  pub out : new.out.items ≡ []

-- The known bytes grow by bytes that, with those in the buffer, are the text of the lines.
abbrev pub Leaves : Option (List ℕ) → Option (List ℕ) → List ℕ → List (List ℕ) → Type 0
Leaves before after out lines = (written : List ℕ) × Appends before after written × IsTextOf lines (written ++ out)

-- The known bytes grow by a front of the text of the lines.
abbrev pub LeavesPrefix : Option (List ℕ) → Option (List ℕ) → List (List ℕ) → Type 0
LeavesPrefix before after lines = (text : List ℕ) × IsTextOf lines text × AppendsPrefix before after text

-- The known bytes grow by the text of the lines.
abbrev pub LeavesAll : Option (List ℕ) → Option (List ℕ) → List (List ℕ) → Type 0
LeavesAll before after lines = (text : List ℕ) × IsTextOf lines text × Appends before after text

-- The known bytes grew by bytes that, with those in the buffer, are the text of these lines, by the steps of this world.
pub record Stands (before after : Option (List ℕ)) (world : WorldValue) (out : List ℕ) (lines : List (List ℕ)) : Type 0 where
  pub written : List ℕ
  pub appended : Appends before after written
  pub text : HasText world.schema (reverse world.steps) lines (written ++ out)

-- The lines that were given of what was read are answered. Of a line that is too long so much was passed over as tells that.
pub record Runs (from to before after : Option (List ℕ)) (last : CallEnd) (s : Script) : Type 0 where
  pub given : List (List ℕ)
  pub reads : Reads from to last s.lines given
  pub stands : Stands before after s.machine.world s.out.items given
  pub long : (passed_over s.lines ≡ 0) ⊎ (max_line < passed_over s.lines)

-- All of the input is read, it is within the limits, and what is written, with the buffer, is its text.
abbrev pub RunsThrough : Option (List ℕ) → Option (List ℕ) → Option (List ℕ) → Option (List ℕ) → CallEnd → Script → Type 0
RunsThrough from to before after last s = (given : List (List ℕ)) × (GaveAll from to last given
    × Stands before after s.machine.world s.out.items given)

-- There may be more, or the run is through.
abbrev pub RunsOn : Option (List ℕ) → Option (List ℕ) → Option (List ℕ) → Option (List ℕ) → CallEnd → Script → Bool → Type 0
RunsOn from to before after last s true = Runs from to before after last s
RunsOn from to before after last s false = RunsThrough from to before after last s

-- All known bytes of the reader are read, they are within the limits on lines and bytes, and the text of their lines is written.
pub record Answers (from to before after : Option (List ℕ)) : Type 0 where
  pub read : List ℕ
  pub consumed : Consumes from to read
  pub end : IsAtEnd to
  pub within : IsWithin read
  pub schema : SchemaValue
  pub steps : List WorldStep
  pub text : List ℕ
  pub answered : HasText schema steps (script_lines read) text
  pub written : Appends before after text

-- At a write fault a front of the text is written, of the whole lines in front of the fault or of the whole
-- input, which are within the limits, and else the text of the whole lines in front of the fault. At want of memory these are all
-- lines but those that end in the last 65,536 bytes that were read, at most (`Explains`).
abbrev pub WritesFor : ScriptFault → Option (List ℕ) → Option (List ℕ) → List ℕ → List ℕ → Type 0
WritesFor Write before after front back =
    IsWithin front × (LeavesPrefix before after (whole_lines front) ⊎ ((back ≡ []) × LeavesPrefix before after (script_lines front)))
WritesFor Read before after front back = LeavesAll before after (whole_lines front)
WritesFor TooLong before after front back = LeavesAll before after (whole_lines front)
WritesFor (Header fault) before after front back = LeavesAll before after (whole_lines front)
WritesFor (BadLine number) before after front back = LeavesAll before after (whole_lines front)
WritesFor (Work fault) before after front back = LeavesAll before after (whole_lines front)
WritesFor Stuck before after front back = LeavesAll before after (whole_lines front)
WritesFor Illegal before after front back = LeavesAll before after (whole_lines front)
WritesFor NoMemory before after front back = LeavesAll before after (whole_lines front)

-- What was read is the front, with the whole lines that are answered, and the back, where the fault came.
pub record Fails (from to before after : Option (List ℕ)) (last : CallEnd) (fault : ScriptFault) : Type 0 where
  pub front : List ℕ
  pub back : List ℕ
  pub consumed : Consumes from to (front ++ back)
  pub why : Explains fault front back (HasEndedAt to last)
  pub written : WritesFor fault before after front back

-- Either a write failed, or all of the text of the lines in front of the fault is written but for what is in the buffer.
abbrev pub StopsAfter : Option (List ℕ) → Option (List ℕ) → Option (List ℕ) → Option (List ℕ) → CallEnd → List ℕ → ScriptFault → Type 0
StopsAfter from to before after last out fault = ((fault ≡ Write) × Fails from to before after last Write)
    ⊎ ((fault ≢ Write) × ((given : List (List ℕ)) × (StopsAt from to last given fault × Leaves before after out given)))
