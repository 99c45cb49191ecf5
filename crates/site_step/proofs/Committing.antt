-- What a commit with escrows needs and leaves, whose record is written from the escrows where they stand.
use Rattle.std.proofs.Common.{◌≡◌, ◌≤◌, ◌<◌, ℕ, ◌+◌, Bool, true, false, List, [], ◌∷◌, ◌++◌, reverse, length, refl, sym, ap, subst, ◌∙◌, Option, Some, None}
use Rattle.std.specs.Prelude.{Ok, Err, nat_le, nat_lt}
use Rattle.std.proofs.lemmas.Bool.{lt-ltb}
use Rattle.std.proofs.lemmas.List.{append-nil}
use Rattle.field_bounds.specs.declared.id.TxnId.{TxnId}
use Rattle.field_bounds.specs.declared.entry.Command.TheVariants.{Commit}
use Rattle.field_bounds.specs.declared.entry.Entry.{Entry}
use Rattle.field_bounds.specs.declared.entry.Escrow.{Escrow}
use Rattle.field_bounds.specs.declared.entry.Reply.TheVariants.{Committed, Unsure}
use Rattle.field_bounds.specs.Effects.{escrows_of}
use Rattle.field_bounds.specs.Owed.{first, refusals, writes}
use Rattle.escrow_journal.specs.Journal.{escrows_at}
use Rattle.kept_records.specs.declared.medium.Device.{Device}
use Rattle.kept_records.specs.declared.medium.Mishap.{Mishap}
use Rattle.kept_records.specs.declared.record.Record.{Record}
use Rattle.kept_records.specs.declared.record.Record.TheVariants as records
use Rattle.kept_records.specs.Text.{text, IsRecord}
use Rattle.kept_records.specs.Medium.{AppendFate}
use Rattle.kept_records.specs.Keeping.{Appends}
use Rattle.kept_records.specs.Stands.{plain, max_behind}
use Rattle.kept_state.specs.Keeps.{record_left}
use Rattle.log_replay.specs.Standing.{TakesIn}
use Rattle.site_step.specs.declared.accounts.SiteAccounts.{SiteAccounts}
use Rattle.site_step.specs.declared.extent.Extent.{Extent}
use Rattle.site_step.specs.Site.{SiteValue, here, entry_of}
use Rattle.site_step.specs.Resuming.{all_bytes}
use Rattle.site_step.specs.State.{IsSoundSite, counted_from, CanClose, CanCarry, after_release, after_spending, one_record_longer}
use Rattle.site_step.proofs.Calls.{commit_escrows, commit_count, record_fits, can_write, none_due, few_written, wrote, unsure}
use Rattle.site_step.proofs.Ends.{Ends}
use Rattle.site_step.proofs.Spending.{spends}

module _ {v w : SiteValue} {up : Bool} {extent : Extent} {a : SiteAccounts} (was : IsSoundSite v up extent a) (is : v ≡ w) (txn : TxnId)
    (none : first (refusals (here w) (Commit txn)) ≡ None) (es : List Escrow) (are : es ≡ escrows_at txn a.journal) (some : 0 < length es) where
  abbrev kept : Record
  kept = records.Commit txn es

  commit_told : writes (here w) (Commit txn) ≡ true
  commit_told = ap (nat_lt 0) (commit_count was is txn none are) ∙ lt-ltb 0 (length es) some

  pub kept_is : record_left (here w) (Commit txn) ≡ kept ∷ []
  kept_is =
      let same : kept ≡ records.Commit txn (reverse (escrows_of txn (here w).effects)) =
      ap (λ (xs : List Escrow). records.Commit txn xs) (are ∙ commit_escrows was is txn none) in
      rw commit_told (ap (λ (r : Record). r ∷ []) (sym same))

  pub commit_fits : IsRecord kept
  commit_fits = record_fits was is (Commit txn) none kept_is

  can_carry_it : CanCarry v.schema a kept
  can_carry_it = can_write was is (Commit txn) none kept_is

  pub can_spend : CanClose a txn
  can_spend = can_carry_it.ready

  pub few_committed : (past based : List Record) (e : Extent) → extent ≡ counted_from (length (plain past)) e → v.based ≡ past ++ based
      → e.count ≤ length based + length v.history
  few_committed past based e counted parts = few_written was is (Commit txn) none kept_is past based e counted parts

  abbrev Then : List Entry → List ℕ → ℕ → Option Mishap → Option ℕ → SiteValue
  Then h bytes failed left doubt = record v { history = h; bytes = bytes; failed = failed; foretold = left; doubt = doubt }

  -- the record alone
  alone : text kept ≡ text kept ++ []
  alone = sym (append-nil (text kept))

  pub commits : nat_le max_behind (extent.behind + 1) ≡ false → (old : List ℕ) {h : List Entry} {b : SiteAccounts} {bytes : List ℕ} {failed : ℕ}
      {left : Option Mishap} {size : ℕ} {later : Extent}
      → v.bytes ≡ all_bytes v.gone old
      → b ≡ after_spending txn a
      → Appends {T = Unit {0}} {E = Device} (Ok tt) old (text kept) bytes v.failed failed
      → AppendFate {E = Device} v.foretold old (text kept) (Ok tt) bytes left
      → h ≡ entry_of v (Commit txn) Committed ∷ v.history → size ≡ length (text kept) → later ≡ one_record_longer extent size
      → Ends w (Commit txn) Committed (Then h (all_bytes v.gone bytes) failed left v.doubt) up later b
  commits undue old {h = h} {b = b} {bytes = bytes} {failed = failed} {left = left} {size = size} {later =
      later} whole spent added fate past long more =
      subst (λ (x : SiteAccounts). Ends w (Commit txn) Committed (Then h (all_bytes v.gone bytes) failed left v.doubt) up later x) (sym spent)
      (wrote was is (Commit txn) none kept_is Committed None old whole refl
      (none_due was is (Commit txn) none kept_is undue)
      (subst (λ (xs : List Escrow). CanCarry v.schema a (records.Commit txn xs) →
      TakesIn v.schema (after_release txn a).standing (records.Commit txn xs) true (after_spending txn a).standing) (sym are)
      (spends v.schema a txn) can_carry_it)
      refl refl
      (subst (λ (x : List ℕ). Appends {T = Unit {0}} {E = Device} (Ok tt) old x bytes v.failed failed) alone added)
      (subst (λ (x : List ℕ). AppendFate {E = Device} v.foretold old x (Ok tt) bytes left) alone fate)
      past (long ∙ ap length alone) more)

  pub commit_unsure : nat_le max_behind (extent.behind + 1) ≡ false → (device : Device) (old : List ℕ) {h : List Entry} {bytes : List ℕ}
      {failed : ℕ} {left : Option Mishap}
      → v.bytes ≡ all_bytes v.gone old
      → Appends {T = Unit {0}} (Err device) old (text kept) bytes v.failed failed
      → AppendFate v.foretold old (text kept) (Err device) bytes left
      → h ≡ entry_of v (Commit txn) Unsure ∷ v.history
      → Ends w (Commit txn) Unsure (Then h (all_bytes v.gone bytes) failed left (Some extent.count)) false extent a
  commit_unsure undue device old {h = h} {bytes = bytes} {failed = failed} {left = left} whole added fate past =
      unsure was is (Commit txn) none kept_is None device old whole
      (none_due was is (Commit txn) none kept_is undue)
      (subst (λ (x : List ℕ). Appends {T = Unit {0}} (Err device) old x bytes v.failed failed) alone added)
      (subst (λ (x : List ℕ). AppendFate v.foretold old x (Err device) bytes left) alone fate) past
