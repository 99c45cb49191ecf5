-- The texts of what a line asks of a site (this project).
use Rattle.std.specs.Prelude.{◌≡◌, false, List, ℕ, ◌++◌, Option, None, Some, codes}
use Rattle.field_bounds.specs.Schema.{SchemaValue}
use Rattle.field_bounds.specs.declared.id.SiteNo.{SiteNo}
use Rattle.field_bounds.specs.declared.id.TxnId.{TxnId}
use Rattle.field_bounds.specs.declared.entry.Command.{Command}
use Rattle.field_bounds.specs.declared.entry.Command.TheVariants.{Commit}
use Rattle.field_bounds.specs.Effects.{is_up_to}
use Rattle.entry_text.specs.Spelling.{command_text, id_text}
use Rattle.entry_text.specs.Ranges.{IdFits, CommandFits}
use Rattle.caller_keys.specs.Keys.{IsKey}

-- The line is the text of a command of this site.
pub record Asks (schema : SchemaValue) (number : SiteNo) (line : List ℕ) (command : Command) : Type 0 where
  pub fits : CommandFits command
  pub text : line ≡ command_text schema number command

-- The question whether a commit is kept.
abbrev pub kept_text : TxnId → List ℕ
kept_text txn = codes "kept " ++ id_text txn

-- ---- a line with a key

-- The text of a commit with a key: of the command, the word `key`, and the key.
abbrev pub commit_text : SchemaValue → SiteNo → TxnId → List ℕ → List ℕ
commit_text schema site txn key = command_text schema site (Commit txn) ++ (codes " key " ++ key)

-- A text that ends in a key, and behind it since when, where that is told: a position, spelled as a transaction.
abbrev pub with_since : List ℕ → Option TxnId → List ℕ
with_since text None = text
with_since text (Some since) = text ++ (codes " since " ++ id_text since)

-- Such a position has the numbers of a transaction, of 32 bits.
abbrev pub SinceFits : Option TxnId → Type 0
SinceFits None = Unit {0}
SinceFits (Some since) = IdFits since

-- The transaction is behind this position, where one is told: it is of a later epoch, or of its epoch with a greater number.
abbrev pub IsBehindSince : Option TxnId → TxnId → Type 0
IsBehindSince None txn = Unit {0}
IsBehindSince (Some since) txn = is_up_to since txn ≡ false

-- The line is the text of a commit with a key at this site; it may tell since when the key is looked for: a position that the transaction
-- is behind. Else its own commit wouldn't be looked for, when the order is asked for again.
pub record AsksCommit (schema : SchemaValue) (number : SiteNo) (line : List ℕ) (txn : TxnId) (key : List ℕ) (since : Option TxnId) : Type 0 where
  pub fits : IdFits txn
  pub is_key : IsKey key
  pub since_fits : SinceFits since
  pub behind : IsBehindSince since txn
  pub text : line ≡ with_since (commit_text schema number txn key) since

-- The question which commit is kept with a key.
abbrev pub kept_key_text : List ℕ → List ℕ
kept_key_text key = codes "kept key " ++ key
