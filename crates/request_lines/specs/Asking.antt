-- What a line asks of a site (this project).
use Rattle.std.specs.Prelude.{◌≡◌, ◌≢◌, ◌<◌, ◌==◌, ◌++◌, ℕ, false, List, Option, None, Some, codes}
use Rattle.std.specs.List.{list_any}
use Rattle.field_bounds.specs.Schema.{SchemaValue}
use Rattle.field_bounds.specs.declared.id.SiteNo.{SiteNo}
use Rattle.field_bounds.specs.declared.id.TxnId.{TxnId}
use Rattle.field_bounds.specs.declared.entry.Command.{Command as CommandType}
use Rattle.field_bounds.specs.declared.entry.Command.TheVariants as commands
use Rattle.entry_text.specs.Spelling.{command_text}
use Rattle.entry_text.specs.Ranges.{SiteFits, IdFits, CommandFits}
use Rattle.caller_keys.specs.Keys.{IsKey}
use Rattle.request_lines.specs.declared.asking.KeyedCommit.{KeyedCommit}
use Rattle.request_lines.specs.declared.asking.Request.{Request}
use Rattle.request_lines.specs.declared.asking.Request.TheVariants.{Do, Commit, Kept, KeptKey}
use Rattle.request_lines.specs.Requests.{kept_text, kept_key_text, with_since, SinceFits, Asks, AsksCommit}

-- The line is the text of this commit with a key at a site; the text of the commit itself is known too.
pub record SpellsCommit (schema : SchemaValue) (site : SiteNo) (line : List ℕ) (commit : KeyedCommit) : Type 0 where
  pub asks : AsksCommit schema site line commit.txn commit.key.bytes.now commit.since
  pub spelled : commit.spelled.now ≡ command_text schema site (commands.Commit commit.txn)

-- The line is the question for this key; it may tell since when.
pub record AsksKey (line key : List ℕ) (since : Option TxnId) : Type 0 where
  pub is_key : IsKey key
  pub since_fits : SinceFits since
  pub text : line ≡ with_since (kept_key_text key) since

-- It asks to carry out a command of this site, or a commit with a key; whether a commit is kept; or which one is kept with a key.
abbrev pub IsAsked : SchemaValue → SiteNo → List ℕ → Request → Type 0
IsAsked schema number line (Do command) = Asks schema number line command
IsAsked schema number line (Commit commit) = SpellsCommit schema number line commit
IsAsked schema number line (Kept txn) = IdFits txn × (line ≡ kept_text txn)
IsAsked schema number line (KeptKey key since) = AsksKey line key.bytes.now since

-- It is a question, and asks this.
abbrev pub IsQuestion : List ℕ → Request → Type 0
IsQuestion line (Do command) = ⊥
IsQuestion line (Commit commit) = ⊥
IsQuestion line (Kept txn) = IdFits txn × (line ≡ kept_text txn)
IsQuestion line (KeptKey key since) = AsksKey line key.bytes.now since

-- It is no question.
pub record AsksNoQuestion (line : List ℕ) : Type 0 where
  pub question : (txn : TxnId) → IdFits txn → line ≢ kept_text txn
  pub key_question : (key : List ℕ) (since : Option TxnId) → AsksKey line key since → ⊥

-- It is the text of no command of a site of the schema.
pub record AsksNoCommand (schema : SchemaValue) (line : List ℕ) : Type 0 where
  pub none : (site : SiteNo) (command : CommandType) → site.0 < schema.sites → SiteFits site → CommandFits command
      → line ≢ command_text schema site command

-- The line is this front, and behind it since when, where that is told; where it isn't, no cut of the line tells it.
pub record IsCutAtSince (line front : List ℕ) (since : Option TxnId) : Type 0 where
  pub parts : line ≡ with_since front since
  pub fits : SinceFits since
  pub none : since ≡ None → (other : List ℕ) (found : TxnId) → IdFits found → line ≢ with_since other (Some found)

-- No byte is a space (32).
abbrev pub HasNoSpace : List ℕ → Type 0
HasNoSpace bytes = list_any (λ b. b == 32) bytes ≡ false

-- The line is this front, and behind it the word `key` and one last word.
pub record IsCutAtKey (line front word : List ℕ) : Type 0 where
  pub parts : line ≡ front ++ (codes " key " ++ word)
  pub one_word : HasNoSpace word
