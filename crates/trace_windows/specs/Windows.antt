-- What a window knows of its trace (this project).
use Rattle.std.specs.Prelude.{◌≡◌, ◌<◌, ◌≤◌, ◌+◌, ◌^◌, ℕ, Bool, true, false, List, ◌++◌, length, Option, Some}
use Rattle.field_bounds.specs.Schema.{SchemaValue}
use Rattle.field_bounds.specs.declared.entry.Entry.{Entry}
use Rattle.script_input.specs.Lines.{whole_lines, last_part}
use Rattle.site_trace.specs.Traces.{entries_of}
use Rattle.trace_windows.specs.declared.window.TraceWindow.{TraceWindow}
use Rattle.trace_windows.specs.Texts.{HaveEntries, HasFewer}

-- What is known of the bytes of a file: they are these, of which so many were read, which end with the front of the text; the back
-- of it wasn't read.
pub record IsReadTo (known : Option (List ℕ)) (read : ℕ) (text front back : List ℕ) : Type 0 where
  pub name : List ℕ
  pub known_is : known ≡ Some (name ++ text)
  pub fits : length (name ++ text) < 2 ^ 64
  pub parts : text ≡ front ++ back
  pub size : read ≡ length name + length front

-- The window is on this text: its file has the text, and of its first entries, as many as count, n were taken. What was read so far
-- has whole lines, whose entries are those in front of the window and those in it, and the front of a line.
pub record IsOn {F : Type 0} (bytes : F → Option (List ℕ)) (schema : SchemaValue) (text : List ℕ) (count n : ℕ) (w : TraceWindow F)
    : Type 0 where
  pub front : List ℕ
  pub back : List ℕ
  pub file : IsReadTo (bytes w.file) w.read text front back
  pub before : List Entry
  pub have : HaveEntries schema (whole_lines front) (before ++ entries_of w.window.items)
  pub torn : w.torn.items ≡ last_part front
  pub within : w.place ≤ length w.window.items
  pub counted : n ≡ length before + w.place
  pub taken : w.taken ≡ n
  pub left : w.left + n ≡ count
  pub few : count < 2 ^ 64

-- And the next entry is in the window, where one is left.
pub record IsFilled {F : Type 0} (bytes : F → Option (List ℕ)) (schema : SchemaValue) (text : List ℕ) (count n : ℕ) (w : TraceWindow F)
    : Type 0 where
  pub on : IsOn bytes schema text count n w
  pub next : n < count → w.place < length w.window.items

-- A read of its file has failed.
abbrev pub HasFailed : {F : Type 0} → (F → Type 0) → TraceWindow F → Type 0
HasFailed failed w = failed w.file

-- ---- one step further. No public clause cites what follows.

-- All entries of the window were taken, and one piece more was read, which stands behind the front of a line.
pub record HasRead {F : Type 0} (bytes : F → Option (List ℕ)) (schema : SchemaValue) (text : List ℕ) (count n : ℕ) (w : TraceWindow F)
    : Type 0 where
  pub front : List ℕ
  pub piece : List ℕ
  pub back : List ℕ
  pub file : IsReadTo (bytes w.file) w.read text (front ++ piece) back
  pub before : List Entry
  pub have : HaveEntries schema (whole_lines front) before
  pub torn : w.torn.items ≡ last_part front ++ piece
  pub counted : n ≡ length before
  pub taken : w.taken ≡ n
  pub left : w.left + n ≡ count
  pub few : count < 2 ^ 64

-- Where all entries of the window were taken: one piece more was read; or there is none, and the text has no entry left.
abbrev pub ReadsOn : {F : Type 0} → (F → Option (List ℕ)) → TraceWindow F → TraceWindow F → Bool → Type 0
ReadsOn bytes old new true = (schema : SchemaValue) (text : List ℕ) (count n : ℕ) → length old.window.items ≤ old.place
    → IsOn bytes schema text count n old → HasRead bytes schema text count n new
ReadsOn bytes old new false = (schema : SchemaValue) (text : List ℕ) (count n : ℕ) → length old.window.items ≤ old.place → n < count
    → IsOn bytes schema text count n old → HasFewer schema text count
