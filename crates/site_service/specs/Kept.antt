-- Which commits a log holds, and how that is told (this project).
use Rattle.std.specs.Prelude.{◌≡◌, ℕ, Bool, if◌then◌else◌, List, [], ◌∷◌, ◌++◌, Option, None, Some, bytes_eq, codes}
use Rattle.field_bounds.specs.declared.id.TxnId.{TxnId}
use Rattle.kept_records.specs.declared.record.Record.{Record}
use Rattle.kept_records.specs.Logs.{IsLog}
use Rattle.site_step.specs.Shortening.{has_commit}
use Rattle.log_head.specs.declared.gone.Gone.{Gone}
use Rattle.log_head.specs.declared.horizon.CommitAnswer.{CommitAnswer}
use Rattle.log_head.specs.declared.horizon.CommitAnswer.TheVariants.{Yes, No, Forgotten}
use Rattle.log_head.specs.Horizons.{IsRight}
use Rattle.std.specs.Map.{lookup}
use Rattle.entry_text.specs.Spelling.{id_text}
use Rattle.caller_keys.specs.Tables.{stored_of}
use Rattle.site_service.specs.declared.key_answer.KeyAnswer.{KeyAnswer}
use Rattle.site_service.specs.declared.key_answer.KeyAnswer.TheVariants as keys
use Rattle.site_service.specs.LetGo.{commit_answer, key_answer}

-- It tells whether the commit is among the records of a log.
abbrev pub TellsCommit : List ℕ → TxnId → Bool → Type 0
TellsCommit bytes txn kept = (rs : List Record) (rest : List ℕ) → IsLog bytes rs rest → kept ≡ has_commit txn rs

-- The answer of a commit, by the records of a log that is held and by what is told of what was let go.
abbrev pub AnswersCommit : List ℕ → Option Gone → TxnId → CommitAnswer → Type 0
AnswersCommit held told txn answer = (kept : Bool) × TellsCommit held txn kept × (answer ≡ commit_answer told txn kept)

-- The answer of a commit is right of the records of a log: yes only where it is among them, no only where it isn't.
abbrev pub IsRightOf : List ℕ → TxnId → CommitAnswer → Type 0
IsRightOf bytes txn answer = (rs : List Record) (rest : List ℕ) → IsLog bytes rs rest → IsRight answer (has_commit txn rs)

-- What follows the question for a commit in the answer to it, with a line feed (10).
abbrev pub kept_words : CommitAnswer → List ℕ
kept_words Yes = codes " -> yes" ++ 10 ∷ []
kept_words No = codes " -> no" ++ 10 ∷ []
kept_words Forgotten = codes " -> forgotten" ++ 10 ∷ []

-- ---- keys

-- The keys that were noted, as a table stores them, each with the transaction that was noted with it last.
abbrev pub LastNotes : Type 0
LastNotes = List (List ℕ × TxnId)

-- The transaction that was noted last with a key.
abbrev pub last_of : LastNotes → List ℕ → Option TxnId
last_of last key = lookup (bytes_eq (stored_of key)) last

-- The same of another key, once a transaction was noted with one.
abbrev pub noted : LastNotes → List ℕ → TxnId → List ℕ → Option TxnId
noted last key txn other = if bytes_eq key other then Some txn else last_of last other

-- What was noted: of each key the last transaction; the lines of the notes that the log hasn't got; and how many keys more can be noted
-- without memory.
pub record NotedValue : Type 0 where
  pub last : LastNotes
  pub lines : List ℕ
  pub room : ℕ

-- This transaction, where there is one and its commit is among the records.
abbrev pub if_committed : List Record → Option TxnId → Option TxnId
if_committed rs None = None
if_committed rs (Some txn) = if has_commit txn rs then Some txn else None

-- It tells which commit is kept with a key: that of the transaction that was noted last, where it is among the records of a log.
abbrev pub TellsKey : List ℕ → LastNotes → List ℕ → Option TxnId → Type 0
TellsKey bytes last key kept = (rs : List Record) (rest : List ℕ) → IsLog bytes rs rest → kept ≡ if_committed rs (last_of last key)

-- The answer of a key, by the records of a log that is held, by what is told of what was let go, and since when it is asked.
abbrev pub AnswersKey : List ℕ → Option Gone → LastNotes → List ℕ → Option TxnId → KeyAnswer → Type 0
AnswersKey held told last key since answer = (kept : Option TxnId) × TellsKey held last key kept × (answer ≡ key_answer told since kept)

-- What follows the question for a key in the answer to it, with a line feed (10).
abbrev pub kept_key_words : KeyAnswer → List ℕ
kept_key_words (keys.Kept txn) = codes " -> " ++ (id_text txn ++ 10 ∷ [])
kept_key_words keys.No = codes " -> no" ++ 10 ∷ []
kept_key_words keys.Forgotten = codes " -> forgotten" ++ 10 ∷ []
