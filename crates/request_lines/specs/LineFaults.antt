-- Why a line is no command, as far as its words tell (this project).
use Rattle.std.specs.Prelude.{ℕ, Bool, ◌||◌, if◌then◌else◌, List, [], ◌∷◌, codes, is_none}
use Rattle.std.specs.Str.{bytes_eq}
use Rattle.field_bounds.specs.Schema.{SchemaValue}
use Rattle.entry_text.specs.Reading.{field_of}
use Rattle.request_lines.specs.declared.bad_line.BadLine.{BadLine}
use Rattle.request_lines.specs.declared.bad_line.BadLine.TheVariants.{UnknownWord, NoField, NoCommand}
use Rattle.request_lines.specs.declared.line_fault.FieldPlace.{FieldPlace}
use Rattle.request_lines.specs.declared.line_fault.FieldPlace.TheVariants.{Unknown, Nowhere, Next, Second, Third}

-- The name of a command with no field in it; of one whose field is the next word; the second; the third.
abbrev pub has_no_field : List ℕ → Bool
has_no_field name = bytes_eq name (codes "begin") || bytes_eq name (codes "commit") || bytes_eq name (codes "abort") || bytes_eq name (codes "restart")

abbrev pub has_field_next : List ℕ → Bool
has_field_next name = bytes_eq name (codes "tighten") || bytes_eq name (codes "read") || bytes_eq name (codes "share")

abbrev pub has_field_second : List ℕ → Bool
has_field_second name =
    bytes_eq name (codes "escrow") || bytes_eq name (codes "give") || bytes_eq name (codes "restate") || bytes_eq name (codes "spare")

abbrev pub has_field_third : List ℕ → Bool
has_field_third name = bytes_eq name (codes "accept")

-- Where the field stands behind the name of a command; a word that names none is unknown.
abbrev pub place_of : List ℕ → FieldPlace
place_of name =
    if has_no_field name then Nowhere
    else if has_field_next name then Next
    else if has_field_second name then Second
    else if has_field_third name then Third
    else Unknown

-- The next word, where there is one, tells no field of the schema; or it does, and something else is wrong.
abbrev pub next_fault : SchemaValue → List (List ℕ) → BadLine
next_fault schema [] = NoCommand
next_fault schema (word ∷ ws) = if is_none (field_of schema word) then NoField else NoCommand

abbrev pub second_fault : SchemaValue → List (List ℕ) → BadLine
second_fault schema [] = NoCommand
second_fault schema (word ∷ ws) = next_fault schema ws

abbrev pub third_fault : SchemaValue → List (List ℕ) → BadLine
third_fault schema [] = NoCommand
third_fault schema (word ∷ ws) = second_fault schema ws

-- What is wrong behind the name of a command.
abbrev pub fault_behind : SchemaValue → FieldPlace → List (List ℕ) → BadLine
fault_behind schema Unknown ws = UnknownWord
fault_behind schema Nowhere ws = NoCommand
fault_behind schema Next ws = next_fault schema ws
fault_behind schema Second ws = second_fault schema ws
fault_behind schema Third ws = third_fault schema ws

-- What is wrong with a line of these words, of which the second is to name a command. Behind `kept` it names none.
abbrev pub fault_in : SchemaValue → List (List ℕ) → BadLine
fault_in schema [] = NoCommand
fault_in schema (first ∷ []) = NoCommand
fault_in schema (first ∷ name ∷ ws) = if bytes_eq first (codes "kept") then NoCommand else fault_behind schema (place_of name) ws
