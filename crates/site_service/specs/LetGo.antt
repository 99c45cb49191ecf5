-- What was let go of a served log, and what is told of commits and of keys then (this project).
use Rattle.std.specs.Prelude.{◌≡◌, Bool, true, false, if◌then◌else◌, List, [], Option, None, Some}
use Rattle.field_bounds.specs.declared.id.TxnId.{TxnId}
use Rattle.kept_records.specs.declared.record.Record.{Record}
use Rattle.field_bounds.specs.Effects.{is_up_to}
use Rattle.site_step.specs.Shortening.{has_commit}
use Rattle.log_head.specs.declared.gone.Gone.{Gone}
use Rattle.log_head.specs.declared.horizon.CommitAnswer.{CommitAnswer}
use Rattle.log_head.specs.declared.horizon.CommitAnswer.TheVariants.{Yes, No}
use Rattle.log_head.specs.Horizons.{is_passed, answer_of}
use Rattle.site_service.specs.declared.key_answer.KeyAnswer.{KeyAnswer}
use Rattle.site_service.specs.declared.key_answer.KeyAnswer.TheVariants as keys

-- What was let go of a log: its first records, which are held no longer, and what is told of them; nothing is told where nothing was
-- ever let go.
pub record LetGo : Type 0 where
  pub gone : List Record
  pub told : Option Gone

abbrev pub let_go_of : List Record → Option Gone → LetGo
let_go_of gone told = record { gone = gone; told = told }

abbrev pub nothing_gone : LetGo
nothing_gone = let_go_of [] None

-- By what is told, the commit of this transaction may be among what was let go.
abbrev pub may_be_gone : Option Gone → TxnId → Bool
may_be_gone None txn = false
may_be_gone (Some gone) txn = is_passed gone.horizon txn

-- What is told is true of what was let go: where nothing is told nothing was, and each transaction may be gone whose commit is.
pub record IsTold (let_go : LetGo) : Type 0 where
  pub none : let_go.told ≡ None → let_go.gone ≡ []
  pub horizon : (txn : TxnId) → has_commit txn let_go.gone ≡ true → may_be_gone let_go.told txn ≡ true

-- What is answered of a transaction whose commit is among the held records, or isn't.
abbrev pub commit_answer : Option Gone → TxnId → Bool → CommitAnswer
commit_answer None txn true = Yes
commit_answer None txn false = No
commit_answer (Some gone) txn is_held = answer_of gone.horizon txn is_held

-- ---- keys

-- Up to this position commits may be gone.
abbrev pub reach_of : Gone → TxnId
reach_of gone = record { epoch = gone.horizon.epoch; number = gone.horizon.number }

-- By what is told, no commit is gone that is looked for: nothing is, or it is one of a transaction behind this position, and no commit that
-- may be gone is behind it. Behind a position are transactions of a later epoch, and those of its epoch with a greater number.
abbrev pub spares_since : Option Gone → Option TxnId → Bool
spares_since None since = true
spares_since (Some gone) None = false
spares_since (Some gone) (Some since) = is_up_to since (reach_of gone)

-- What is answered of a key with which this commit is kept, among the held records, or none. Where a position is given, whoever asks tells
-- that each commit with the key is of a transaction behind it.
abbrev pub key_answer : Option Gone → Option TxnId → Option TxnId → KeyAnswer
key_answer told since (Some txn) = keys.Kept txn
key_answer told since None = if spares_since told since then keys.No else keys.Forgotten

-- No commit that is looked for is among these records: none is of a transaction behind the position, where one is given; else there are no
-- records.
abbrev pub HasNoneSince : List Record → Option TxnId → Type 0
HasNoneSince gone None = gone ≡ []
HasNoneSince gone (Some since) = (txn : TxnId) → is_up_to since txn ≡ false → has_commit txn gone ≡ false

-- The answer of a key is right of what was let go: no only where no commit that is looked for is gone.
abbrev pub IsRightOfKey : List Record → Option TxnId → KeyAnswer → Type 0
IsRightOfKey gone since answer = answer ≡ keys.No → HasNoneSince gone since
