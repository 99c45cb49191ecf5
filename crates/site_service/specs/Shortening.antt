-- What a service lets go of its log, and what it tells of it (this project).
use Rattle.std.specs.Prelude.{◌≡◌, ◌⊎◌, ℕ, ◌+◌, Bool, true, false, List, ◌∷◌, ◌++◌, length, reverse, slice_get, Option, None, Some}
use Rattle.std.specs.List.{flat_map}
use Rattle.field_bounds.specs.declared.id.TxnId.{TxnId}
use Rattle.field_bounds.specs.Effects.{open_txns}
use Rattle.kept_records.specs.declared.record.Record.{Record}
use Rattle.kept_records.specs.Text.{text}
use Rattle.kept_records.specs.Stands.{plain}
use Rattle.kept_records.specs.Summary.{summary_record}
use Rattle.site_step.specs.Site.{here}
use Rattle.log_head.specs.declared.gone.Gone.{Gone}
use Rattle.log_head.specs.Horizons.{is_passed}
use Rattle.site_step.specs.Shortening.{has_commit, later_txn, latest_commit, CanGo}
use Rattle.site_service.specs.LetGo.{let_go_of, may_be_gone, reach_of}
use Rattle.site_service.specs.Kept.{LastNotes, last_of, if_committed, TellsCommit}
use Rattle.site_service.specs.Answers.{Served, site_of, held_in}
use Rattle.site_service.specs.Service.{HoldsText}

-- How many bytes, and how many records without summaries, were let go by what is told.
abbrev pub bytes_told : Option Gone → ℕ
bytes_told None = 0
bytes_told (Some gone) = gone.bytes

abbrev pub records_told : Option Gone → ℕ
records_told None = 0
records_told (Some gone) = gone.records

-- Up to this transaction commits may be gone, by what is told. Where nothing is told none is, up to the one in front of the first.
abbrev pub reach_told : Option Gone → TxnId
reach_told None = record { epoch = 1; number = 0 }
reach_told (Some gone) = reach_of gone

-- What is told once these records more were let go: they are counted; each transaction may be gone that might have been before, and each
-- whose commit is among them; and no later one than the greatest of these, or than might before.
pub record TellsMore (old : Option Gone) (new : Gone) (more : List Record) : Type 0 where
  pub bytes : new.bytes ≡ bytes_told old + length (flat_map text more)
  pub records : new.records ≡ records_told old + length (plain more)
  pub further : (txn : TxnId) → may_be_gone old txn ≡ true → is_passed new.horizon txn ≡ true
  pub commits : (txn : TxnId) → has_commit txn more ≡ true → is_passed new.horizon txn ≡ true
  pub reach : reach_of new ≡ later_txn (reach_told old) (Some (latest_commit more))

-- Of each key stays what was noted last with it, where its commit is among these records; of another key nothing is noted any more.
abbrev pub KeepsHeldNotes : LastNotes → LastNotes → List Record → Type 0
KeepsHeldNotes old new held = (key : List ℕ) → last_of new key ≡ if_committed held (last_of old key)

-- The same site is served, and these records more were let go, one at least, the first of those that were held: a summary is the first that
-- is held still, so many bytes stand behind its line, and another summary among them. Of keys those stay noted whose commits are held.
pub record HasLetGo (keep : ℕ) (old new : Served) : Type 0 where
  pub site : new.site ≡ old.site
  pub lines : new.lines ≡ old.lines
  pub more : List Record
  pub can : CanGo (held_in old) keep more
  pub last : KeepsHeldNotes old.last new.last (summary_record can.base ∷ can.behind)
  pub told : Gone
  pub let_go_is : new.let_go ≡ let_go_of (old.let_go.gone ++ more) (Some told)
  pub tells : TellsMore old.let_go.told told more

-- Nothing has changed, or more was let go, and so many bytes stay.
abbrev pub MayLetGo : ℕ → Served → Served → Type 0
MayLetGo keep old new = (new ≡ old) ⊎ HasLetGo keep old new

-- By this test no transaction may be gone that is open, has no commit among the records that are held, and couldn't be gone before.
abbrev pub SparesOpenBy : Served → (TxnId → Bool) → Type 0
SparesOpenBy old is_gone =
    (n : ℕ) (txn : TxnId) → slice_get (reverse (open_txns (here (site_of old)).effects)) n ≡ Some txn → TellsCommit (held_in old) txn false
    → may_be_gone old.let_go.told txn ≡ false → is_gone txn ≡ false

-- So it is by what is told.
abbrev pub SparesOpen : Served → Served → Type 0
SparesOpen old new = SparesOpenBy old (may_be_gone new.let_go.told)

-- It isn't known which log a stop of the machine leaves: that of this site, or a shorter one, in which so many bytes stay; each is whole.
abbrev pub LeavesEither : ℕ → Served → Option (List ℕ) → Type 0
LeavesEither keep old safe =
    HoldsText safe old.last (held_in old) ⊎ ((later : Served) × HasLetGo keep old later × HoldsText safe later.last (held_in later))
