-- What a receipt says (this project).
use Rattle.std.specs.Prelude.{◌≡◌, ℕ, ◌+◌, ◌-◌, ◌<◌, ◌⊎◌, List, [], ◌∷◌, length, Some}
use Rattle.std.specs.List.{slice_get}
use Rattle.field_bounds.specs.declared.id.SiteNo.{SiteNo}
use Rattle.field_bounds.specs.declared.entry.Command.{Command}
use Rattle.field_bounds.specs.declared.entry.Entry.{Entry}
use Rattle.site_step.specs.Site.{SiteValue, Applies}
use Rattle.site_desk.specs.declared.locked.Receipt.{Receipt}
use Rattle.site_desk.specs.Passes.{PassSeen}

-- One command was applied, and the receipt is its entry, with the entry's place and site.
pub record Serves (before : SiteValue) (command : Command) (after : SiteValue) (r : Receipt) : Type 0 where
  pub applies : Applies before command r.entry.reply after
  pub asked : r.entry.command ≡ command
  pub of : r.entry.site ≡ before.site
  pub site : r.site ≡ before.site
  pub number : r.number ≡ length after.history

-- The pass has made one call more, whose entry is beyond all that it had seen.
abbrev pub Counts : PassSeen → Command → Receipt → PassSeen → Type 0
Counts before command r after =
    (r.entry.command ≡ command) × (before.last < r.number) × (after.count ≡ before.count + 1) × (after.last ≡ r.number)

-- ---- receipts of a history, which has its oldest entry first

-- The receipt is the entry at its place of the history of this site.
pub record IsAt (site : SiteNo) (h : List Entry) (r : Receipt) : Type 0 where
  pub of : r.site ≡ site
  pub some : 0 < r.number
  pub entry : slice_get h (r.number - 1) ≡ Some r.entry

-- Each of the receipts is such an entry.
abbrev pub AreAllAt : SiteNo → List Entry → List Receipt → Type 0
AreAllAt site h [] = Unit {0}
AreAllAt site h (r ∷ rs) = IsAt site h r × AreAllAt site h rs

-- Some receipt has this number.
abbrev pub HasNumber : List Receipt → ℕ → Type 0
HasNumber [] n = ⊥
HasNumber (r ∷ rs) n = (r.number ≡ n) ⊎ HasNumber rs n

-- No two receipts have one number.
abbrev pub AreDistinct : List Receipt → Type 0
AreDistinct [] = Unit {0}
AreDistinct (r ∷ rs) = ¬ HasNumber rs r.number × AreDistinct rs

-- The receipts are exactly the entries of the history, each once.
pub record AreReceiptsOf (site : SiteNo) (h : List Entry) (rs : List Receipt) : Type 0 where
  pub stand : AreAllAt site h rs
  pub once : AreDistinct rs
  pub each : (n : ℕ) → n < length h → HasNumber rs (n + 1)
