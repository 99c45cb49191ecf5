-- What the words of a line tell is never that it is too long, or another site's.
use Rattle.std.proofs.Common.{◌≡◌, Bool, true, false, if◌then◌else◌, List, [], ◌∷◌, ℕ, codes, is_none, bytes_eq, subst, sym, refl}
use Rattle.line_words.specs.Words.{words}
use Rattle.field_bounds.specs.Schema.{SchemaValue}
use Rattle.field_bounds.specs.declared.id.SiteNo.{SiteNo}
use Rattle.entry_text.specs.Reading.{field_of}
use Rattle.request_lines.specs.declared.bad_line.BadLine.{BadLine}
use Rattle.request_lines.specs.declared.bad_line.BadLine.TheVariants.{TooLong, OtherSite, UnknownWord, NoField, NoCommand}
use Rattle.request_lines.specs.declared.line_fault.FieldPlace.{FieldPlace}
use Rattle.request_lines.specs.declared.line_fault.FieldPlace.TheVariants.{Unknown, Nowhere, Next, Second, Third}
use Rattle.request_lines.specs.BadLines.{AsksNothing, IsBad}
use Rattle.request_lines.specs.LineFaults.{place_of, next_fault, second_fault, third_fault, fault_behind, fault_in}

abbrev IsOfWords : BadLine → Type 0
IsOfWords TooLong = ⊥
IsOfWords OtherSite = ⊥
IsOfWords UnknownWord = Unit {0}
IsOfWords NoField = Unit {0}
IsOfWords NoCommand = Unit {0}

either : (b : Bool) → IsOfWords (if b then NoField else NoCommand)
either true = tt
either false = tt

next_is : (schema : SchemaValue) (ws : List (List ℕ)) → IsOfWords (next_fault schema ws)
next_is schema [] = tt
next_is schema (word ∷ ws) = either (is_none (field_of schema word))

second_is : (schema : SchemaValue) (ws : List (List ℕ)) → IsOfWords (second_fault schema ws)
second_is schema [] = tt
second_is schema (word ∷ ws) = next_is schema ws

third_is : (schema : SchemaValue) (ws : List (List ℕ)) → IsOfWords (third_fault schema ws)
third_is schema [] = tt
third_is schema (word ∷ ws) = second_is schema ws

behind_is : (schema : SchemaValue) (place : FieldPlace) (ws : List (List ℕ)) → IsOfWords (fault_behind schema place ws)
behind_is schema Unknown ws = tt
behind_is schema Nowhere ws = tt
behind_is schema Next ws = next_is schema ws
behind_is schema Second ws = second_is schema ws
behind_is schema Third ws = third_is schema ws

unless_kept : (schema : SchemaValue) (b : Bool) (place : FieldPlace) (ws : List (List ℕ))
    → IsOfWords (if b then NoCommand else fault_behind schema place ws)
unless_kept schema true place ws = tt
unless_kept schema false place ws = behind_is schema place ws

is_of_words : (schema : SchemaValue) (ws : List (List ℕ)) → IsOfWords (fault_in schema ws)
is_of_words schema [] = tt
is_of_words schema (first ∷ []) = tt
is_of_words schema (first ∷ name ∷ ws) = unless_kept schema (bytes_eq first (codes "kept")) (place_of name) ws

bad_by : (schema : SchemaValue) (number : SiteNo) (line : List ℕ) → AsksNothing schema line → (why : BadLine)
    → fault_in schema (words line) ≡ why → IsOfWords why → IsBad schema number line why
bad_by schema number line none TooLong is of = absurd of
bad_by schema number line none OtherSite is of = absurd of
bad_by schema number line none UnknownWord is of = (none, is)
bad_by schema number line none NoField is of = (none, is)
bad_by schema number line none NoCommand is of = (none, is)

-- a line that asks nothing is bad, for what its words tell
pub bad_words_of : (schema : SchemaValue) (number : SiteNo) (line : List ℕ) → AsksNothing schema line → (why : BadLine)
    → why ≡ fault_in schema (words line) → IsBad schema number line why
bad_words_of schema number line none why is =
    subst (IsBad schema number line) (sym is) (bad_by schema number line none (fault_in schema (words line)) refl (is_of_words schema (words line)))
