-- The remarks of a run: what it tells of a line, where that is no entry (this project).
use Rattle.std.specs.Prelude.{◌≡◌, ℕ, ◌^◌, ◌<◌, ◌≤◌, Bool, true, ◌&&◌, nat_lt, List, [], ◌∷◌, length, Option, Some, codes, FitsSigned}
use Rattle.std.specs.Int.{w64}
use Rattle.std.specs.Fmt.{decimal, signed_decimal}
use Rattle.field_bounds.specs.Schema.{SchemaValue}
use Rattle.line_words.specs.Words.{words, line}
use Rattle.line_words.specs.Reading.{◌>>=◌, number_of, signed_of, only_of, beside, word_at, only_value}
use Rattle.entry_text.specs.Spelling.{site_text, field_text, kind_text}
use Rattle.entry_text.specs.Ranges.{SiteFits, FieldFits}
use Rattle.entry_text.specs.Reading.{site_of, field_of, kind_of}
use Rattle.entry_text.specs.Lines.{max_line}
use Rattle.escrow_audit.specs.declared.remark.Reason.{Reason}
use Rattle.escrow_audit.specs.declared.remark.Reason.TheVariants as reasons
use Rattle.escrow_audit.specs.declared.remark.ReachEnd.{ReachEnd}
use Rattle.escrow_audit.specs.declared.remark.ReachEnd.TheVariants as outcomes
use Rattle.escrow_audit.specs.declared.remark.Remark.{Remark}
use Rattle.escrow_audit.specs.declared.remark.Remark.TheVariants as remarks
use Rattle.escrow_audit.specs.declared.remark.RemarkWord.{RemarkWord}
use Rattle.escrow_audit.specs.declared.remark.RemarkWord.TheVariants as openings
use Rattle.escrow_audit.specs.declared.remark.Ending.{Ending}
use Rattle.escrow_audit.specs.declared.remark.Ending.TheVariants as endings

-- ---- the text of a remark

-- Why a target isn't reached.
abbrev pub reason_text : Reason → List ℕ
reason_text reasons.Site = codes "site"
reason_text reasons.Field = codes "field"
reason_text reasons.Down = codes "down"
reason_text reasons.Flight = codes "flight"
reason_text reasons.Unstated = codes "unstated"
reason_text reasons.Tightened = codes "tightened"
reason_text reasons.Numbers = codes "numbers"
reason_text reasons.Outside = codes "outside"

-- The words of an outcome: how many steps reach the target, or why it isn't reached.
abbrev pub outcome_words : ReachEnd → List (List ℕ)
outcome_words (outcomes.Steps steps) = codes "steps" ∷ decimal steps ∷ []
outcome_words (outcomes.Unreached reason) = codes "no" ∷ reason_text reason ∷ []

-- The words of a remark: a bad line; a statement that was never issued and so isn't delivered; how many gifts level a
-- field; how a line ends that reaches for a value.
abbrev pub remark_words : SchemaValue → Remark → List (List ℕ)
remark_words schema remarks.BadLine = codes "bad" ∷ codes "line" ∷ []
remark_words schema (remarks.NoStatement number) =
    codes "deliver" ∷ decimal number ∷ codes "->" ∷ codes "refused" ∷ codes "16" ∷ codes "no" ∷ codes "statement" ∷ []
remark_words schema (remarks.Level field kind moves) =
    codes "level" ∷ field_text schema field ∷ kind_text kind ∷ codes "->" ∷ codes "moves" ∷ decimal moves ∷ []
remark_words schema (remarks.Reach site field target outcome) =
    codes "reach" ∷ site_text site ∷ field_text schema field ∷ signed_decimal target ∷ codes "->" ∷ outcome_words outcome

-- A remark.
abbrev pub remark_text : SchemaValue → Remark → List ℕ
remark_text schema remark = line (remark_words schema remark)

-- A count is a u64.
abbrev pub OutcomeFits : ReachEnd → Type 0
OutcomeFits (outcomes.Steps steps) = steps < 2 ^ 64
OutcomeFits (outcomes.Unreached reason) = Unit {0}

-- Numbers and counts are u64, a target is an i64.
abbrev pub RemarkFits : Remark → Type 0
RemarkFits remarks.BadLine = Unit {0}
RemarkFits (remarks.NoStatement number) = number < 2 ^ 64
RemarkFits (remarks.Level field kind moves) = FieldFits field × (moves < 2 ^ 64)
RemarkFits (remarks.Reach site field target outcome) = SiteFits site × FieldFits field × FitsSigned w64 target × OutcomeFits outcome

-- The site and the field that a remark names are in the schema.
unfoldable pub is_in_schema : SchemaValue → Remark → Bool
is_in_schema schema remarks.BadLine = true
is_in_schema schema (remarks.NoStatement number) = true
is_in_schema schema (remarks.Level field kind moves) = nat_lt field.0 (length schema.fields)
is_in_schema schema (remarks.Reach site field target outcome) = nat_lt site.0 schema.sites && nat_lt field.0 (length schema.fields)

-- A line is a remark: its text, of a site and a field of the schema, and not too long.
pub record IsRemark (schema : SchemaValue) (bytes : List ℕ) : Type 0 where
  pub remark : Remark
  pub fits : RemarkFits remark
  pub named : is_in_schema schema remark ≡ true
  pub text : bytes ≡ remark_text schema remark
  pub short : length bytes ≤ max_line

-- ---- reading it, word by word

-- The reasons by their words.
abbrev pub reason_table : List (List ℕ × Reason)
reason_table = (codes "site", reasons.Site) ∷ (codes "field", reasons.Field) ∷ (codes "down", reasons.Down)
    ∷ (codes "flight", reasons.Flight)
    ∷ (codes "unstated", reasons.Unstated) ∷ (codes "tightened", reasons.Tightened) ∷ (codes "numbers", reasons.Numbers)
    ∷ (codes "outside", reasons.Outside) ∷ []

-- The reason that the word names.
unfoldable pub reason_of : List ℕ → Option Reason
reason_of w = beside reason_table w

-- What remarks begin with.
abbrev pub opening_table : List (List ℕ × RemarkWord)
opening_table = (codes "bad", openings.Bad) ∷ (codes "deliver", openings.Deliver) ∷ (codes "level", openings.Level)
    ∷ (codes "reach", openings.Reach) ∷ []

-- What the word begins.
unfoldable pub opening_of : List ℕ → Option RemarkWord
opening_of w = beside opening_table w

-- What outcomes begin with.
abbrev pub ending_table : List (List ℕ × Ending)
ending_table = (codes "steps", endings.Steps) ∷ (codes "no", endings.No) ∷ []

-- What outcome the word begins.
unfoldable pub ending_of : List ℕ → Option Ending
ending_of w = beside ending_table w

-- The number of a statement that was never issued, and the words after the remark on it.
unfoldable pub no_statement_at : List (List ℕ) → Option (Remark × List (List ℕ))
no_statement_at ws = do
  number ← word_at (number_of (2 ^ 64)) ws
  arrow ← word_at (only_of (codes "->")) number.1
  refused ← word_at (only_of (codes "refused")) arrow.1
  refusal ← word_at (only_of (codes "16")) refused.1
  none ← word_at (only_of (codes "no")) refusal.1
  statement ← word_at (only_of (codes "statement")) none.1
  Some (remarks.NoStatement number.0, statement.1)

-- The field, the kind and the count of the gifts that level it, and the words after them.
unfoldable pub level_at : SchemaValue → List (List ℕ) → Option (Remark × List (List ℕ))
level_at schema ws = do
  field ← word_at (field_of schema) ws
  kind ← word_at kind_of field.1
  arrow ← word_at (only_of (codes "->")) kind.1
  moved ← word_at (only_of (codes "moves")) arrow.1
  moves ← word_at (number_of (2 ^ 64)) moved.1
  Some (remarks.Level field.0 kind.0 moves.0, moves.1)

-- The outcome that a word begins, and the words after it.
unfoldable pub outcome_after : Ending → List (List ℕ) → Option (ReachEnd × List (List ℕ))
outcome_after endings.Steps ws = do
  steps ← word_at (number_of (2 ^ 64)) ws
  Some (outcomes.Steps steps.0, steps.1)
outcome_after endings.No ws = do
  reason ← word_at reason_of ws
  Some (outcomes.Unreached reason.0, reason.1)

-- The outcome of a list of words, and the words after it.
unfoldable pub outcome_at : List (List ℕ) → Option (ReachEnd × List (List ℕ))
outcome_at ws = do
  ending ← word_at ending_of ws
  outcome_after ending.0 ending.1

-- The site, the field and the target that is reached for, how that ends, and the words after it.
unfoldable pub reach_at : SchemaValue → List (List ℕ) → Option (Remark × List (List ℕ))
reach_at schema ws = do
  site ← word_at site_of ws
  field ← word_at (field_of schema) site.1
  target ← word_at signed_of field.1
  arrow ← word_at (only_of (codes "->")) target.1
  outcome ← outcome_at arrow.1
  Some (remarks.Reach site.0 field.0 target.0 outcome.0, outcome.1)

-- The remark that a word begins, and the words after it.
unfoldable pub remark_after : SchemaValue → RemarkWord → List (List ℕ) → Option (Remark × List (List ℕ))
remark_after schema openings.Bad ws = do
  end ← word_at (only_of (codes "line")) ws
  Some (remarks.BadLine, end.1)
remark_after schema openings.Deliver ws = no_statement_at ws
remark_after schema openings.Level ws = level_at schema ws
remark_after schema openings.Reach ws = reach_at schema ws

-- The remark of a list of words, and the words after it.
unfoldable pub remark_at : SchemaValue → List (List ℕ) → Option (Remark × List (List ℕ))
remark_at schema ws = do
  opening ← word_at opening_of ws
  remark_after schema opening.0 opening.1

-- The remark that a line spells, whether or not its site and field are in the schema.
unfoldable pub remark_of : SchemaValue → List ℕ → Option Remark
remark_of schema bytes = do
  remark ← remark_at schema (words bytes)
  only_value remark
