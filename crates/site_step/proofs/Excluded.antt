-- What the contract of a call leaves no room for, whatever the body.
use Rattle.std.proofs.Common.{◌≡◌, ◌≢◌, ◌≤◌, ◌∙◌, List, ℕ, [], refl, sym, ap, subst, Option, Some}
use Rattle.std.proofs.lemmas.Bool.{le-leb}
use Rattle.field_bounds.specs.declared.entry.Command.{Command}
use Rattle.field_bounds.specs.declared.entry.Command.TheVariants.{Restart}
use Rattle.field_bounds.specs.declared.entry.Reply.{Reply}
use Rattle.field_bounds.specs.declared.entry.Reply.TheVariants.{StillDown, Refused, Unsure}
use Rattle.field_bounds.specs.declared.entry.Refusal.TheVariants.{NumbersFull}
use Rattle.field_bounds.specs.Owed.{max_epoch}
use Rattle.kept_records.specs.declared.medium.Mishap.{Mishap}
use Rattle.kept_records.specs.declared.medium.Mishap.TheVariants.{Never, Cut, Read}
use Rattle.kept_records.specs.declared.record.Record.{Record}
use Rattle.kept_records.specs.Stands.{greatest}
use Rattle.kept_state.specs.Doubt.{found_of}
use Rattle.site_step.specs.Site.{SiteValue, Holds, here, mishap_left, foretold_after, owed_under, Applies}
use Rattle.site_step.specs.Calls.{IsSure}
use Rattle.site_step.proofs.Lasting.{fine_is_sure, never_under}

-- ---- a restart

refused_is_up : (r : Reply) → r ≡ Refused NumbersFull → r ≢ StillDown
refused_is_up r is down = let e : ◌≡◌ {A = Reply} (Refused NumbersFull) StillDown = sym is ∙ down in cc

-- at the last epoch it cuts nothing
pub no_cut_when_full : (v w : SiteValue) (rs : List Record) (rest : List ℕ) (r : Reply) → Holds v.schema v.site.0 v.bytes rs rest
    → v.foretold ≡ Some Cut → max_epoch ≤ greatest rs → Applies v Restart r w → r ≢ StillDown
no_cut_when_full v w rs rest r log known most h = refused_is_up r
    (rw (le-leb max_epoch (greatest rs) most) at (h.under rs rest Cut log known))

-- where nothing is torn it cuts nothing
pub no_needless_cut : (v w : SiteValue) (rs : List Record) (r : Reply) → Holds v.schema v.site.0 v.bytes rs [] → v.foretold ≡ Some Cut
    → Applies v Restart r w → r ≢ StillDown
no_needless_cut v w rs r log known h = (subst IsSure (sym (h.under rs [] Cut log known))
    (fine_is_sure (here v) (greatest rs) (found_of v.doubt rs) Restart)).1

-- it reads first
struck_by_read : (r : Reply) (m : Option Mishap) → r ≡ StillDown → m ≡ Some Read → foretold_after r m ≡ Some Never
struck_by_read r m down known = ap (λ (x : Reply). foretold_after x m) down ∙ ap mishap_left known

pub read_comes_first : (v w : SiteValue) (rs : List Record) (rest : List ℕ) (r : Reply) → Holds v.schema v.site.0 v.bytes rs rest
    → v.foretold ≡ Some Read → Applies v Restart r w → (r ≡ StillDown) × (w.foretold ≡ Some Never)
read_comes_first v w rs rest r log known h =
    let down = h.under rs rest Read log known in
    (down, h.foretold ∙ struck_by_read r v.foretold down known)

-- ---- any other command

pub cut_is_never : (v : SiteValue) (rs : List Record) (rest : List ℕ) (c : Command) → c ≢ Restart
    → owed_under v rs rest c Cut ≡ owed_under v rs rest c Never
cut_is_never v rs rest Restart n = absurd (n refl)
cut_is_never v rs rest c n = refl

pub read_is_never : (v : SiteValue) (rs : List Record) (rest : List ℕ) (c : Command) → c ≢ Restart
    → owed_under v rs rest c Read ≡ owed_under v rs rest c Never
read_is_never v rs rest Restart n = absurd (n refl)
read_is_never v rs rest c n = refl

sure_stays : (r : Reply) (m : Option Mishap) → IsSure r → foretold_after r m ≡ m
sure_stays Unsure m sure = absurd (sure.0 refl)
sure_stays StillDown m sure = absurd (sure.1 refl)
sure_stays r m sure = refl

pub as_under_never : (v w : SiteValue) (rs : List Record) (rest : List ℕ) (m : Mishap) (c : Command) (r : Reply)
    → Holds v.schema v.site.0 v.bytes rs rest → v.foretold ≡ Some m
    → owed_under v rs rest c m ≡ owed_under v rs rest c Never → Applies v c r w → (r ≡ owed_under v rs rest c Never)
    × (w.foretold ≡ v.foretold)
as_under_never v w rs rest m c r log known same h =
    let is = h.under rs rest m log known ∙ same in
    let sure = subst IsSure (sym (is ∙ never_under v rs rest c)) (fine_is_sure (here v) (greatest rs) (found_of v.doubt rs) c) in
    (is, h.foretold ∙ sure_stays r v.foretold sure)
