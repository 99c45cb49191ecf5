-- What a site answers to lines (this project).
use Rattle.std.specs.Prelude.{◌≡◌, ◌≢◌, ◌⊎◌, ℕ, Bool, true, false, if◌then◌else◌, List, [], ◌∷◌, ◌++◌, Option, None}
use Rattle.field_bounds.specs.declared.id.TxnId.{TxnId}
use Rattle.field_bounds.specs.declared.entry.Command.{Command}
use Rattle.field_bounds.specs.declared.entry.Command.TheVariants.{Commit}
use Rattle.field_bounds.specs.declared.entry.Reply.{Reply}
use Rattle.field_bounds.specs.declared.entry.Reply.TheVariants.{Committed}
use Rattle.site_step.specs.Site.{SiteValue, Applies, entry_of}
use Rattle.site_step.specs.Shortening.{held_of}
use Rattle.log_head.specs.declared.gone.Gone.{Gone}
use Rattle.entry_text.specs.Spelling.{entry_text}
use Rattle.entry_text.specs.Ranges.{IdFits}
use Rattle.script_input.specs.Streams.{one_more}
use Rattle.caller_keys.specs.Keys.{IsKey}
use Rattle.request_lines.specs.declared.bad_line.BadLine.{BadLine}
use Rattle.request_lines.specs.Requests.{Asks, AsksCommit, kept_text, kept_key_text, with_since, SinceFits}
use Rattle.request_lines.specs.BadLines.{IsBad, bad_text}
use Rattle.site_service.specs.declared.key_answer.KeyAnswer.TheVariants.{No}
use Rattle.site_service.specs.LetGo.{LetGo, let_go_of, commit_answer, key_answer}
use Rattle.site_service.specs.Kept.{LastNotes, last_of, noted, TellsCommit, TellsKey, kept_words, kept_key_words}

-- A site as if nothing of its log had been let go: where the bytes of the log lie makes no difference to what it answers.
abbrev pub whole_of : SiteValue → SiteValue
whole_of site = record site { gone = [] }

-- What the answer to a line depends on: the site, as if nothing of its log had been let go; the keys of callers that were noted, each
-- with its last transaction; what was let go of the log; and how many lines were answered before, as a u64 that begins again at 0.
pub record Served : Type 0 where
  pub site : SiteValue
  pub last : LastNotes
  pub let_go : LetGo
  pub lines : ℕ

abbrev pub served_of : SiteValue → LastNotes → Option Gone → ℕ → Served
served_of site last told lines =
    record { site = whole_of site; last = last; let_go = let_go_of site.gone told; lines = lines }

-- The site itself.
abbrev pub site_of : Served → SiteValue
site_of served = record served.site { gone = served.let_go.gone }

-- What is held of its log.
abbrev pub held_in : Served → List ℕ
held_in served = held_of (site_of served)

-- Neither the site changes nor a key is noted, and nothing is let go.
pub record IsStill (old new : Served) : Type 0 where
  pub site : new.site ≡ old.site
  pub last : new.last ≡ old.last
  pub let_go : new.let_go ≡ old.let_go

-- ---- a line that asks something

-- The site carried out a command, and the text is that of its entry, with a line feed (10).
pub record Answered (old : SiteValue) (command : Command) (new : SiteValue) (text : List ℕ) : Type 0 where
  pub reply : Reply
  pub applies : Applies old command reply new
  pub told : text ≡ entry_text old.schema (entry_of old command reply) ++ 10 ∷ []

-- What is left where memory is refused: the site as it was, or one that carried the command out.
abbrev pub LeavesCommand : SiteValue → Command → SiteValue → Type 0
LeavesCommand old command new = (new ≡ old) ⊎ ((text : List ℕ) × Answered old command new text)

-- The line asks a command of this site. It is carried out, and the text is that of its entry; no key is noted.
pub record CarriedOut (old : Served) (line : List ℕ) (new : Served) (text : List ℕ) : Type 0 where
  pub command : Command
  pub asks : Asks old.site.schema old.site.site line command
  pub answered : Answered old.site command new.site text
  pub last : new.last ≡ old.last
  pub let_go : new.let_go ≡ old.let_go

-- The line asks whether a commit is in the log. All stays as it is, and the text tells it behind the line, by the records that are held
-- and what is told of those that were let go.
pub record ToldKept (old : Served) (line : List ℕ) (new : Served) (text : List ℕ) : Type 0 where
  pub txn : TxnId
  pub fits : IdFits txn
  pub asked : line ≡ kept_text txn
  pub kept : Bool
  pub tells : TellsCommit (held_in old) txn kept
  pub still : IsStill old new
  pub told : text ≡ line ++ kept_words (commit_answer old.let_go.told txn kept)

-- ---- a line with a key

-- The reply tells that a transaction was committed.
abbrev pub is_committed : Reply → Bool
is_committed Committed = true
is_committed reply = false

-- Of each key the last transaction, behind a commit with a key that was answered so: where it was committed, the key was noted.
abbrev pub NotesCommit : LastNotes → LastNotes → List ℕ → TxnId → Reply → Type 0
NotesCommit old new key txn reply =
    (other : List ℕ) → last_of new other ≡ (if is_committed reply then noted old key txn other else last_of old other)

-- A commit with a key was carried out, and the text is that of its entry. Its key is noted for its transaction where it was committed.
pub record CommitsWith (old : SiteValue) (last : LastNotes) (txn : TxnId) (key : List ℕ) (new : SiteValue) (later : LastNotes)
    (text : List ℕ) : Type 0 where
  pub answered : Answered old (Commit txn) new text
  pub notes : NotesCommit last later key txn answered.reply

-- The line asks a commit with a key, with which one is kept already, among the records that are held, or may be among those that were let
-- go. All stays as it is, and the text tells that: as the answer to the question for the key does, without since when.
pub record RefusedKey (old : Served) (line : List ℕ) (new : Served) (text : List ℕ) : Type 0 where
  pub txn : TxnId
  pub key : List ℕ
  pub since : Option TxnId
  pub asks : AsksCommit old.site.schema old.site.site line txn key since
  pub kept : Option TxnId
  pub tells : TellsKey (held_in old) old.last key kept
  pub refuses : key_answer old.let_go.told since kept ≢ No
  pub still : IsStill old new
  pub told : text ≡ kept_key_text key ++ kept_key_words (key_answer old.let_go.told since kept)

-- The line asks a commit with a key of which the answer is no: with it no commit is kept among the records that are held, and none that is
-- looked for is among those that were let go. It is carried out, and the text is that of its entry, without the key, which is noted for its
-- transaction where it was committed.
pub record CommittedWithKey (old : Served) (line : List ℕ) (new : Served) (text : List ℕ) : Type 0 where
  pub txn : TxnId
  pub key : List ℕ
  pub since : Option TxnId
  pub asks : AsksCommit old.site.schema old.site.site line txn key since
  pub tells : TellsKey (held_in old) old.last key None
  pub answer : key_answer old.let_go.told since None ≡ No
  pub commits : CommitsWith old.site old.last txn key new.site new.last text
  pub let_go : new.let_go ≡ old.let_go

-- The line asks which commit is kept with a key; it may tell since when. All stays as it is, and the text tells it behind the line.
pub record ToldKey (old : Served) (line : List ℕ) (new : Served) (text : List ℕ) : Type 0 where
  pub key : List ℕ
  pub since : Option TxnId
  pub is_key : IsKey key
  pub since_fits : SinceFits since
  pub asked : line ≡ with_since (kept_key_text key) since
  pub kept : Option TxnId
  pub tells : TellsKey (held_in old) old.last key kept
  pub still : IsStill old new
  pub told : text ≡ line ++ kept_key_words (key_answer old.let_go.told since kept)

-- ---- a line that asks nothing

-- All stays as it is, and the text tells the line's number, and why it asks nothing.
pub record Passed (old : Served) (line : List ℕ) (new : Served) (text : List ℕ) : Type 0 where
  pub why : BadLine
  pub bad : IsBad old.site.schema old.site.site line why
  pub still : IsStill old new
  pub told : text ≡ bad_text new.lines why

-- ---- the answers

-- The answer to a line, whose number the new count tells: the entry of the command that it asks, carried out; the same of a commit
-- with a key, or which commit is kept with the key already, or that one may be forgotten; whether a commit is in the log; which one is
-- kept with a key; or that the line asks nothing.
abbrev pub IsAnswer : Served → List ℕ → Served → List ℕ → Type 0
IsAnswer old line new text =
    CarriedOut old line new text
    ⊎ (CommittedWithKey old line new text
    ⊎ (RefusedKey old line new text ⊎ (ToldKept old line new text ⊎ (ToldKey old line new text ⊎ Passed old line new text))))

-- The answer to the next line, which is counted.
pub record AnswersLine (old : Served) (line : List ℕ) (new : Served) (text : List ℕ) : Type 0 where
  pub counted : new.lines ≡ one_more old.lines
  pub answer : IsAnswer old line new text

-- What is left where memory is refused: all as it was, or what the answer to the line leaves, of which the text alone is wanting. So
-- no commit with a key stands without its note.
abbrev pub LeavesAnswer : Served → List ℕ → Served → Type 0
LeavesAnswer old line new = IsStill old new ⊎ ((text : List ℕ) × IsAnswer old line new text)

-- The answers to lines, one after the other.
abbrev pub AnswersLines : Served → List (List ℕ) → Served → List ℕ → Type 0
AnswersLines old [] new text = (new ≡ old) × (text ≡ [])
AnswersLines old (line ∷ lines) new text =
    (next : Served) × (first : List ℕ) × (rest : List ℕ) × AnswersLine old line next first × AnswersLines next lines new rest
    × (text ≡ first ++ rest)
