-- Whether a head tells rightly what is gone (this project).
use Rattle.std.specs.Prelude.{◌≡◌, ℕ, ◌+◌, ◌&&◌, not, Bool, true, List, [], length, Option, None, Some}
use Rattle.std.specs.List.{flat_map, list_all}
use Rattle.field_bounds.specs.declared.id.TxnId.{TxnId}
use Rattle.kept_records.specs.declared.record.Record.{Record}
use Rattle.kept_records.specs.Kinds.{commit_told}
use Rattle.kept_records.specs.Text.{text}
use Rattle.kept_records.specs.Stands.{plain}
use Rattle.log_head.specs.declared.gone.Gone.{Gone}
use Rattle.field_bounds.specs.Effects.{is_up_to}
use Rattle.log_head.specs.Horizons.{HorizonValue, is_passed, last_of}

-- How many bytes, and how many records without summaries, were let go by what is told.
abbrev pub bytes_told : Option Gone → ℕ
bytes_told None = 0
bytes_told (Some gone) = gone.bytes

abbrev pub records_told : Option Gone → ℕ
records_told None = 0
records_told (Some gone) = gone.records

-- The record may be gone by the horizon: it is no commit, or the horizon has passed it.
abbrev pub has_passed : HorizonValue → Option TxnId → Bool
has_passed h None = true
has_passed h (Some txn) = is_passed h txn

abbrev pub may_go : HorizonValue → Record → Bool
may_go h r = has_passed h (commit_told r)

-- The horizon tells rightly of these records that they are gone.
abbrev pub all_may_go : HorizonValue → List Record → Bool
all_may_go h rs = list_all (may_go h) rs

abbrev pub txn_of : ℕ → ℕ → TxnId
txn_of epoch number = record { epoch = epoch; number = number }

-- The horizon has passed none of these transactions of an epoch.
abbrev pub were_beyond : HorizonValue → ℕ → List ℕ → Bool
were_beyond old epoch ns = list_all (λ n. not (is_passed old (txn_of epoch n))) ns

-- The new horizon has passed all that the old one has: it reaches as far, and lists none that the old one has passed.
abbrev pub reaches : HorizonValue → HorizonValue → Bool
reaches old new = is_up_to (last_of new) (last_of old) && were_beyond old new.epoch new.open_then

abbrev pub goes_on : Option Gone → HorizonValue → Bool
goes_on None new = true
goes_on (Some gone) new = reaches gone.horizon new

-- What is told once these records more are gone: they are counted with those before, each of their commits may be gone, and so may each
-- that might before.
pub record TellsMore (old : Option Gone) (new : Gone) (more : List Record) : Type 0 where
  pub bytes : new.bytes ≡ bytes_told old + length (flat_map text more)
  pub records : new.records ≡ records_told old + length (plain more)
  pub commits : all_may_go new.horizon more ≡ true
  pub further : goes_on old new.horizon ≡ true

-- A head tells rightly that these records are gone: so many bytes they are, so many without summaries, and each commit among them may be
-- gone by its horizon.
pub record AreTold (gone : Gone) (rs : List Record) : Type 0 where
  pub bytes : gone.bytes ≡ length (flat_map text rs)
  pub records : gone.records ≡ length (plain rs)
  pub commits : all_may_go gone.horizon rs ≡ true

-- These records are gone, and where that is none nothing is told.
abbrev pub AreGone : Option Gone → List Record → Type 0
AreGone None rs = rs ≡ []
AreGone (Some gone) rs = AreTold gone rs
