-- What a reading of notes meets at each step (this project).
use Rattle.std.specs.Prelude.{◌≡◌, ◌≢◌, ℕ, List, [], ◌∷◌, ◌++◌, All, codes}
use Rattle.std.specs.List.{AllByRecursion, flat_map}
use Rattle.std.specs.Fmt.{decimal}
use Rattle.caller_keys.specs.Keys.{KeyNote, KeyedLine, line_text, IsLine, notes_in, records_in}
use Rattle.caller_keys.specs.Tables.{KeyTableValue, Tells}

-- No byte is a space (32).
abbrev pub IsWord : List ℕ → Type 0
IsWord bytes = All (λ b. b ≢ 32) bytes

-- No byte is a line feed (10).
abbrev pub IsOneLine : List ℕ → Type 0
IsOneLine bytes = All (λ b. b ≢ 10) bytes

-- A line of a note without its line feed, of two numbers and the digits of its key.
abbrev pub spelled : ℕ → ℕ → List ℕ → List ℕ
spelled epoch number digits = codes "K " ++ decimal epoch ++ 32 ∷ decimal number ++ 32 ∷ digits

-- The lines in front of what is left of the text were gone over: the table tells their notes, and the records are their other lines.
pub record Gone (text left : List ℕ) (table : KeyTableValue) (records : List ℕ) : Type 0 where
  pub lines : List KeyedLine
  pub each : AllByRecursion IsLine lines
  pub text_is : text ≡ flat_map line_text lines ++ left
  pub tells : Tells table (flat_map notes_in lines)
  pub records_are : records ≡ flat_map records_in lines

-- A line, without its line feed, was taken: the table tells its note anew, or the line stands behind the records.
pub record Takes (old new : KeyTableValue) (before after line : List ℕ) : Type 0 where
  pub told : KeyedLine
  pub is_line : IsLine told
  pub line_is : line ++ 10 ∷ [] ≡ line_text told
  pub tells : (notes : List KeyNote) → Tells old notes → Tells new (notes ++ notes_in told)
  pub records_are : after ≡ before ++ records_in told
