-- What a fault of receipts tells (this project). They are tested in the order of the list.
use Rattle.std.specs.Prelude.{◌≡◌, ℕ, ◌<◌, ◌≤◌, List, length, take, Some}
use Rattle.std.specs.List.{slice_get}
use Rattle.field_bounds.specs.declared.id.SiteNo.{SiteNo}
use Rattle.field_bounds.specs.declared.entry.Entry.{Entry}
use Rattle.site_desk.specs.declared.locked.Receipt.{Receipt}
use Rattle.work_faults.specs.declared.receipts.ReceiptFault.{ReceiptFault}
use Rattle.work_faults.specs.declared.receipts.ReceiptFault.TheVariants.{Differs, Twice, Missing, NoMemory}
use Rattle.site_desk.specs.Receipts.{IsAt, AreAllAt, HasNumber, AreDistinct}

-- The receipt at place i, before which all stand, each once.
pub record IsReachedAt (site : SiteNo) (h : List Entry) (rs : List Receipt) (i : ℕ) (r : Receipt) : Type 0 where
  pub at : slice_get rs i ≡ Some r
  pub stand : AreAllAt site h (take i rs)
  pub once : AreDistinct (take i rs)

-- All the receipts stand, each once, and this place, from 1, is the least without one.
pub record IsLeastWithout (site : SiteNo) (h : List Entry) (rs : List Receipt) (n : ℕ) : Type 0 where
  pub stand : AreAllAt site h rs
  pub once : AreDistinct rs
  pub place : (0 < n) × (n ≤ length h)
  pub without : ¬ HasNumber rs n
  pub lower : (m : ℕ) → 0 < m → m < n → HasNumber rs m

-- Differs names the first receipt that isn't the entry at its place, Twice the first whose place an earlier one has, and
-- Missing, where there is no such receipt, the least place without one.
abbrev pub TellsReceipts : SiteNo → List Entry → List Receipt → ReceiptFault → Type 0
TellsReceipts site h rs (Differs s n) =
    (i : ℕ) × (r : Receipt) × IsReachedAt site h rs i r × (r.site ≡ s) × (r.number ≡ n) × ¬ IsAt site h r
TellsReceipts site h rs (Twice s n) =
    (i : ℕ) × (r : Receipt) × IsReachedAt site h rs i r × (r.site ≡ s) × (r.number ≡ n) × IsAt site h r × HasNumber (take i rs) n
TellsReceipts site h rs (Missing s n) = (s ≡ site) × IsLeastWithout site h rs n
TellsReceipts site h rs NoMemory = Unit {0}
