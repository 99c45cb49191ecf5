-- What words spell a command, as functions on lists of words (this project).
use Rattle.std.specs.Prelude.{ℕ, ◌^◌, List, [], ◌∷◌, ◌++◌, Option, Some, codes}
use Rattle.field_bounds.specs.Schema.{SchemaValue}
use Rattle.field_bounds.specs.declared.id.SiteNo.{SiteNo}
use Rattle.field_bounds.specs.declared.id.FieldNo.{FieldNo}
use Rattle.field_bounds.specs.declared.kind.Kind.{Kind}
use Rattle.field_bounds.specs.declared.entry.Command.{Command}
use Rattle.field_bounds.specs.declared.entry.Command.TheVariants.{Begin, Escrow, Commit, Abort, Give, Restate, Spare, Tighten, Accept, Read, Share, Restart}
use Rattle.line_words.specs.Words.{words}
use Rattle.line_words.specs.Reading.{◌>>=◌, number_of, signed_of, word_at, only_value}
use Rattle.entry_text.specs.Reading.{site_of, id_of, kind_of, field_of, Reader, no_word, one_word, three_words, four_words, five_words, table_at}

-- Commands by their names, each with what its words after the name are: those of a transaction.
abbrev pub transaction_commands : SchemaValue → List (List ℕ × Reader Command)
transaction_commands schema =
    (codes "begin", no_word Begin)
    ∷ (codes "escrow", three_words id_of (field_of schema) signed_of Escrow)
    ∷ (codes "commit", one_word id_of Commit)
    ∷ (codes "abort", one_word id_of Abort)
    ∷ []

-- Those that give rights to another site.
abbrev pub gift_commands : SchemaValue → List (List ℕ × Reader Command)
gift_commands schema =
    (codes "give", four_words site_of (field_of schema) kind_of (number_of (2 ^ 64)) Give)
    ∷ (codes "restate", three_words site_of (field_of schema) kind_of Restate)
    ∷ (codes "spare", four_words site_of (field_of schema) kind_of (number_of (2 ^ 64)) Spare)
    ∷ []

-- The acceptance of the statement of these parts.
abbrev pub accept : SiteNo → SiteNo → FieldNo → Kind → ℕ → Command
accept from to field kind total = Accept (record { from = from; to = to; field = field; kind = kind; total = total })

-- Those that change or tell what the site itself has.
abbrev pub own_commands : SchemaValue → List (List ℕ × Reader Command)
own_commands schema =
    (codes "accept", five_words site_of site_of (field_of schema) kind_of (number_of (2 ^ 64)) accept)
    ∷ (codes "tighten", three_words (field_of schema) kind_of (number_of (2 ^ 64)) Tighten)
    ∷ (codes "read", one_word (field_of schema) Read)
    ∷ (codes "share", one_word (field_of schema) Share)
    ∷ (codes "restart", no_word Restart)
    ∷ []

-- The commands by their names.
abbrev pub command_table : SchemaValue → List (List ℕ × Reader Command)
command_table schema = transaction_commands schema ++ gift_commands schema ++ own_commands schema

-- The site and the command of a list of words, and the words after them.
unfoldable pub command_at : SchemaValue → Reader (SiteNo × Command)
command_at schema ws = do
  site ← word_at site_of ws
  command ← table_at (command_table schema) site.1
  Some ((site.0, command.0), command.1)

-- The site and the command that a line spells.
unfoldable pub command_of : SchemaValue → List ℕ → Option (SiteNo × Command)
command_of schema bytes = do
  command ← command_at schema (words bytes)
  only_value command
