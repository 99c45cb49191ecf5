-- A line that asks nothing, and what it is answered (this project).
use Rattle.std.specs.Prelude.{◌≡◌, ◌≢◌, ◌⊎◌, ◌<◌, ◌≤◌, ℕ, List, [], ◌∷◌, ◌++◌, length, Option, codes}
use Rattle.std.specs.Fmt.{decimal}
use Rattle.field_bounds.specs.Schema.{SchemaValue}
use Rattle.field_bounds.specs.declared.id.SiteNo.{SiteNo}
use Rattle.field_bounds.specs.declared.id.TxnId.{TxnId}
use Rattle.field_bounds.specs.declared.entry.Command.{Command}
use Rattle.entry_text.specs.Spelling.{command_text}
use Rattle.entry_text.specs.Ranges.{SiteFits, IdFits, CommandFits}
use Rattle.entry_text.specs.Lines.{max_line}
use Rattle.line_words.specs.Words.{words}
use Rattle.caller_keys.specs.Keys.{IsKey}
use Rattle.request_lines.specs.Requests.{kept_text, kept_key_text, with_since, SinceFits, AsksCommit}
use Rattle.request_lines.specs.LineFaults.{fault_in}
use Rattle.request_lines.specs.declared.bad_line.BadLine.{BadLine}
use Rattle.request_lines.specs.declared.bad_line.BadLine.TheVariants.{TooLong, OtherSite, UnknownWord, NoField, NoCommand}

-- The line has no more than 256 bytes, and is the text neither of a command of a site of the schema, with or without a key, nor of a
-- question for a commit or for a key; with a key it may tell since when.
pub record AsksNothing (schema : SchemaValue) (line : List ℕ) : Type 0 where
  pub short : length line ≤ max_line
  pub command : (site : SiteNo) (command : Command) → site.0 < schema.sites → SiteFits site → CommandFits command
      → line ≢ command_text schema site command
  pub with_key : (site : SiteNo) (txn : TxnId) (key : List ℕ) (since : Option TxnId) → site.0 < schema.sites → SiteFits site
      → AsksCommit schema site line txn key since → ⊥
  pub question : (txn : TxnId) → IdFits txn → line ≢ kept_text txn
  pub key_question : (key : List ℕ) (since : Option TxnId) → IsKey key → SinceFits since → line ≢ with_since (kept_key_text key) since

-- The line is the text of a command of this site, with or without a key, whose numbers fit.
abbrev pub IsOrder : SchemaValue → SiteNo → List ℕ → Type 0
IsOrder schema site line =
    ((command : Command) × CommandFits command × (line ≡ command_text schema site command))
    ⊎ ((txn : TxnId) × (key : List ℕ) × (since : Option TxnId) × AsksCommit schema site line txn key since)

-- Why a line asks nothing of a site: it has more than 256 bytes; or it has no more, and is the text of a command of another site of
-- the schema, or neither of a command of such a site nor of a question, by what its words tell.
abbrev pub IsBad : SchemaValue → SiteNo → List ℕ → BadLine → Type 0
IsBad schema number line TooLong = max_line < length line
IsBad schema number line OtherSite = (length line ≤ max_line)
    × ((site : SiteNo) × (site.0 < schema.sites) × SiteFits site × (site ≢ number) × IsOrder schema site line)
IsBad schema number line UnknownWord = AsksNothing schema line × (fault_in schema (words line) ≡ UnknownWord)
IsBad schema number line NoField = AsksNothing schema line × (fault_in schema (words line) ≡ NoField)
IsBad schema number line NoCommand = AsksNothing schema line × (fault_in schema (words line) ≡ NoCommand)

-- The words that tell it.
abbrev pub bad_words : BadLine → List ℕ
bad_words TooLong = codes "too long"
bad_words OtherSite = codes "other site"
bad_words UnknownWord = codes "unknown word"
bad_words NoField = codes "no such field"
bad_words NoCommand = codes "no command"

-- The answer to the line of this number, with a line feed (10).
abbrev pub bad_text : ℕ → BadLine → List ℕ
bad_text number why = codes "bad line " ++ (decimal number ++ (32 ∷ (bad_words why ++ 10 ∷ [])))
