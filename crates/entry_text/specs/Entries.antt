-- What words spell an entry, as functions on lists of words (this project).
use Rattle.std.specs.Prelude.{ℕ, List, Option, Some, codes}
use Rattle.field_bounds.specs.Schema.{SchemaValue}
use Rattle.field_bounds.specs.declared.entry.Entry.{Entry}
use Rattle.line_words.specs.Words.{words}
use Rattle.line_words.specs.Reading.{◌>>=◌, only_of, word_at, only_value}
use Rattle.entry_text.specs.Commands.{command_at}
use Rattle.entry_text.specs.Replies.{reply_at}

-- The entry of a list of words, and the words after it.
unfoldable pub entry_at : SchemaValue → List (List ℕ) → Option (Entry × List (List ℕ))
entry_at schema ws = do
  command ← command_at schema ws
  arrow ← word_at (only_of (codes "->")) command.1
  reply ← reply_at arrow.1
  Some (record { site = command.0.0; command = command.0.1; reply = reply.0 }, reply.1)

-- The entry that a line spells.
unfoldable pub entry_of : SchemaValue → List ℕ → Option Entry
entry_of schema bytes = do
  entry ← entry_at schema (words bytes)
  only_value entry
