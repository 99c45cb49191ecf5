-- What a record leaves that is written with no summary behind it.
use Rattle.std.proofs.Common.{◌≡◌, ℕ, ◌+◌, Bool, true, false, List, [], ◌∷◌, ◌++◌, length, sym, ap, subst, ◌∙◌, Option, Some, None}
use Rattle.std.specs.Prelude.{Ok, Err, nat_le}
use Rattle.std.proofs.lemmas.List.{append-nil}
use Rattle.field_bounds.specs.declared.entry.Command.{Command}
use Rattle.field_bounds.specs.declared.entry.Entry.{Entry}
use Rattle.field_bounds.specs.declared.entry.Reply.{Reply}
use Rattle.field_bounds.specs.declared.entry.Reply.TheVariants.{Unsure}
use Rattle.field_bounds.specs.Owed.{first, refusals, answer}
use Rattle.kept_records.specs.declared.medium.Device.{Device}
use Rattle.kept_records.specs.declared.medium.Mishap.{Mishap}
use Rattle.kept_records.specs.declared.record.Record.{Record}
use Rattle.kept_records.specs.Text.{text}
use Rattle.kept_records.specs.Medium.{AppendFate}
use Rattle.kept_records.specs.Keeping.{Appends}
use Rattle.kept_records.specs.Stands.{max_behind}
use Rattle.kept_state.specs.Keeps.{record_left}
use Rattle.log_replay.specs.Standing.{TakesIn}
use Rattle.site_step.specs.declared.accounts.SiteAccounts.{SiteAccounts}
use Rattle.site_step.specs.declared.extent.Extent.{Extent}
use Rattle.site_step.specs.Site.{SiteValue, here, entry_of}
use Rattle.site_step.specs.State.{IsSoundSite, before_taking_in, one_record_longer}
use Rattle.site_step.specs.Resuming.{all_bytes}
use Rattle.site_step.proofs.Calls.{none_due, wrote, unsure}
use Rattle.site_step.proofs.Ends.{Ends}

module _ {v w : SiteValue} {up : Bool} {extent : Extent} {a : SiteAccounts} (was : IsSoundSite v up extent a) (is : v ≡ w) (c : Command)
    (none : first (refusals (here w) c) ≡ None) {kept : Record} (kept_is : record_left (here w) c ≡ kept ∷ [])
    (undue : nat_le max_behind (extent.behind + 1) ≡ false) where
  abbrev Then : List Entry → List ℕ → ℕ → Option Mishap → Option ℕ → SiteValue
  Then h bytes failed left doubt = record v { history = h; bytes = bytes; failed = failed; foretold = left; doubt = doubt }

  -- the record alone
  alone : text kept ≡ text kept ++ []
  alone = sym (append-nil (text kept))

  pub wrote_alone : (r : Reply) (old : List ℕ) → r ≡ answer (here w) c → {h : List Entry} {b : SiteAccounts} {bytes : List ℕ} {failed : ℕ}
      {left : Option Mishap} {size : ℕ} {later : Extent}
      → v.bytes ≡ all_bytes v.gone old
      → TakesIn v.schema (before_taking_in a kept).standing kept true b.standing → b.journal ≡ (before_taking_in a kept).journal
      → b.last ≡ a.last
      → Appends {T = Unit {0}} {E = Device} (Ok tt) old (text kept) bytes v.failed failed
      → AppendFate {E = Device} v.foretold old (text kept) (Ok tt) bytes left
      → h ≡ entry_of v c r ∷ v.history → size ≡ length (text kept) → later ≡ one_record_longer extent size
      → Ends w c r (Then h (all_bytes v.gone bytes) failed left v.doubt) up later b
  wrote_alone r old owed {bytes = bytes} {failed = failed} {left = left} whole took open_ last_is added fate past long more =
      wrote was is c none kept_is r None old whole owed (none_due was is c none kept_is undue) took open_ last_is
      (subst (λ (x : List ℕ). Appends {T = Unit {0}} {E = Device} (Ok tt) old x bytes v.failed failed) alone added)
      (subst (λ (x : List ℕ). AppendFate {E = Device} v.foretold old x (Ok tt) bytes left) alone fate)
      past (long ∙ ap length alone) more

  pub unsure_alone : (device : Device) (old : List ℕ) {h : List Entry} {bytes : List ℕ} {failed : ℕ} {left : Option Mishap}
      → v.bytes ≡ all_bytes v.gone old
      → Appends {T = Unit {0}} (Err device) old (text kept) bytes v.failed failed
      → AppendFate v.foretold old (text kept) (Err device) bytes left
      → h ≡ entry_of v c Unsure ∷ v.history
      → Ends w c Unsure (Then h (all_bytes v.gone bytes) failed left (Some extent.count)) false extent a
  unsure_alone device old {bytes = bytes} {failed = failed} {left = left} whole added fate past =
      unsure was is c none kept_is None device old whole (none_due was is c none kept_is undue)
      (subst (λ (x : List ℕ). Appends {T = Unit {0}} (Err device) old x bytes v.failed failed) alone added)
      (subst (λ (x : List ℕ). AppendFate v.foretold old x (Err device) bytes left) alone fate) past
