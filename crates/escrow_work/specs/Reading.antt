-- The scripts of what was read (this project).
use Rattle.std.specs.Prelude.{ℕ, List, Option}
use Rattle.std.specs.Io.KnownBytes.{Consumes}
use Rattle.script_input.specs.declared.streams.CallEnd.{CallEnd}
use Rattle.script_input.specs.Lines.{script_lines}
use Rattle.script_input.specs.Faults.{HasEndedAt, IsWithin}
use Rattle.script_input.specs.Reader.{ReadsNoFurther}
use Rattle.site_workers.specs.Scripts.{scripts_of}
use Rattle.escrow_work.specs.declared.scripts.Scripts.{Scripts}
use Rattle.escrow_work.specs.Scripts.{HasScripts}
use Rattle.escrow_work.specs.Work.{IsGood}

-- They are the scripts of these lines, a header and plain commands.
abbrev pub Holds : Scripts → List (List ℕ) → Type 0
Holds scripts lines = HasScripts scripts.schema scripts.header.items (scripts_of scripts.rows.items) lines

-- All of the input was read, it is within the limits, and the scripts are those of its lines.
abbrev pub ReadsThrough : Option (List ℕ) → Option (List ℕ) → CallEnd → Scripts → Type 0
ReadsThrough from to last scripts =
    (read : List ℕ) × (Consumes from to read × (HasEndedAt to last × (IsWithin read × Holds scripts (script_lines read))))

-- The lines in front of the last piece that was read are good. So want of memory is told for a line of that piece, or once the
-- input has ended.
pub record WantsAt (from to : Option (List ℕ)) : Type 0 where
  pub given : List (List ℕ)
  pub good : IsGood given
  pub no_further : ReadsNoFurther from to given
