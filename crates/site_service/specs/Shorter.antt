-- A log that takes the place of a longer one (this project). No public clause cites this module.
use Rattle.std.specs.Prelude.{◌≡◌, ◌<◌, ℕ, Bool, true, false, List, [], ◌++◌, if◌then◌else◌, bytes_eq, slice_get, reverse, take, Option, None, Some}
use Rattle.std.specs.List.{flat_map, AllByRecursion, list_any}
use Rattle.field_bounds.specs.declared.id.TxnId.{TxnId}
use Rattle.field_bounds.specs.Effects.{open_txns}
use Rattle.kept_records.specs.declared.record.Record.{Record}
use Rattle.kept_records.specs.Logs.{IsLog}
use Rattle.caller_keys.specs.Keys.{KeyNote, IsNote, note_line, last_txn}
use Rattle.caller_keys.specs.Tables.{stored_of}
use Rattle.site_step.specs.Site.{SiteValue, here}
use Rattle.log_head.specs.declared.gone.Gone.{Gone}
use Rattle.log_head.specs.Horizons.{is_listed, is_passed, horizon_of}
use Rattle.site_service.specs.declared.service.shortening.Shorter.{Shorter}
use Rattle.site_service.specs.LetGo.{may_be_gone}
use Rattle.site_service.specs.Kept.{LastNotes, last_of, noted, if_committed, TellsCommit}
use Rattle.site_service.specs.Answers.{Served}
use Rattle.site_service.specs.Index.{IsIndexOf}
use Rattle.site_step.specs.Shortening.{ShorteningValue}
use Rattle.site_service.specs.Shortening.{TellsMore, SparesOpenBy, KeepsHeldNotes}

-- ---- keys

-- A key is noted anew for the transaction that was found, where one was.
abbrev pub noted_if : LastNotes → List ℕ → Option TxnId → List ℕ → Option TxnId
noted_if last key None other = last_of last other
noted_if last key (Some txn) other = noted last key txn other

-- The key is among the first so many.
abbrev pub is_seen : ℕ → LastNotes → List ℕ → Bool
is_seen n last key = list_any (λ row. bytes_eq (stored_of key) row.0) (take n last)

-- What was noted last with a key, where it is among the first so many.
abbrev pub last_seen : ℕ → LastNotes → List ℕ → Option TxnId
last_seen n last key = if is_seen n last key then last_of last key else None

-- Of the first so many keys those are noted whose commits are held.
abbrev pub KeepsSeen : List ℕ → ℕ → LastNotes → LastNotes → Type 0
KeepsSeen held n old new =
    (rs : List Record) (rest : List ℕ) → IsLog held rs rest → (key : List ℕ) → last_of new key ≡ if_committed rs (last_seen n old key)

-- ---- the horizon

abbrev pub txn_of : ℕ → ℕ → TxnId
txn_of epoch number = record { epoch = epoch; number = number }

-- An open transaction is told as not gone by a horizon up to this one with these listed; or it needn't be: it was told so before, or its
-- commit is held.
abbrev pub IsSpared : List ℕ → Option Gone → TxnId → List ℕ → TxnId → Type 0
IsSpared held told last listed txn =
    TellsCommit held txn false → may_be_gone told txn ≡ false → is_passed (horizon_of last.epoch last.number listed) txn ≡ false

-- Those that are listed were not told as gone before, and no commit of them is held.
abbrev pub ListsNone : List ℕ → Option Gone → TxnId → List ℕ → Type 0
ListsNone held told last listed =
    (n : ℕ) → is_listed n listed ≡ true
    → (may_be_gone told (txn_of last.epoch n) ≡ false) × TellsCommit held (txn_of last.epoch n) false

-- One more is listed, or needn't be.
pub record ListsOne (held : List ℕ) (told : Option Gone) (last : TxnId) (old new : List ℕ) (txn : TxnId) : Type 0 where
  pub none : ListsNone held told last old → ListsNone held told last new
  pub spared : IsSpared held told last new txn
  pub others : (other : TxnId) → IsSpared held told last old other → IsSpared held told last new other

-- That is so where it is told; else nothing is said.
abbrev pub ListsIf : List ℕ → Option Gone → TxnId → List ℕ → List ℕ → TxnId → Bool → Type 0
ListsIf held told last old new txn true = ListsOne held told last old new txn
ListsIf held told last old new txn false = Unit {0}

-- The first so many transactions that are open at a site are spared.
pub record ListsOpen (site : SiteValue) (held : List ℕ) (told : Option Gone) (last : TxnId) (count : ℕ) (listed : List ℕ) : Type 0 where
  pub none : ListsNone held told last listed
  pub spared : (n : ℕ) (txn : TxnId) → n < count → slice_get (reverse (open_txns (here site).effects)) n ≡ Some txn
      → IsSpared held told last listed txn

-- All of them are.
abbrev pub ListsAllOpen : SiteValue → List ℕ → Option Gone → TxnId → List ℕ → Type 0
ListsAllOpen site held told last listed =
    ListsNone held told last listed
    × ((n : ℕ) (txn : TxnId) → slice_get (reverse (open_txns (here site).effects)) n ≡ Some txn → IsSpared held told last listed txn)

-- ---- the log

-- It holds the notes of the keys whose commits are held, and the records that stay; what is told of it is right; and what the service
-- knows of it is that.
pub record IsShorter (old : Served) (plan : ShorteningValue) (shorter : Shorter) : Type 0 where
  pub tells : TellsMore old.let_go.told shorter.told plan.gone
  pub spares : SparesOpenBy old (is_passed shorter.told.horizon)
  pub notes : List KeyNote
  pub each : AllByRecursion IsNote notes
  pub text : shorter.text.items ≡ flat_map note_line notes ++ plan.held
  pub noted : (key : List ℕ) → last_of shorter.keys.last key ≡ last_txn key notes
  pub last : (rs : List Record) (rest : List ℕ) → IsLog plan.held rs rest → KeepsHeldNotes old.last shorter.keys.last rs
  pub none : shorter.keys.lines ≡ []
  pub index : IsIndexOf shorter.kept plan.held
