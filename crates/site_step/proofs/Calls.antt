-- What each call of a site needs and leaves: once for each, over the site as it is kept and as its callers see it.
use Rattle.std.proofs.Common.{◌≡◌, ◌≢◌, ◌≤◌, ◌<◌, ℕ, ◌+◌, ◌-◌, Bool, true, false, ◌&&◌, List, [], ◌∷◌, ◌++◌, length, reverse, refl, sym, ap, subst, ◌∙◌, arith, Option, Some, None}
use Rattle.std.specs.Prelude.{Ok, Err, unsigned_abs, unwrap_or, nat_le, if◌then◌else◌}
use Rattle.std.proofs.lemmas.List.{length-append, length-reverse, reverse-append}
use Rattle.field_bounds.specs.declared.id.TxnId.{TxnId}
use Rattle.field_bounds.specs.declared.id.SiteNo.{SiteNo}
use Rattle.field_bounds.specs.declared.id.FieldNo.{FieldNo}
use Rattle.field_bounds.specs.declared.kind.Kind.{Kind}
use Rattle.field_bounds.specs.declared.kind.Kind.TheVariants.{Lower, Raise}
use Rattle.field_bounds.specs.declared.entry.Command.{Command}
use Rattle.field_bounds.specs.declared.entry.Command.TheVariants.{Begin, Escrow as Ask, Commit, Restart}
use Rattle.field_bounds.specs.declared.entry.Entry.{Entry}
use Rattle.field_bounds.specs.declared.entry.Escrow.{Escrow}
use Rattle.field_bounds.specs.declared.entry.Last.{Last}
use Rattle.field_bounds.specs.declared.entry.Reply.{Reply}
use Rattle.field_bounds.specs.declared.entry.Reply.TheVariants.{Begun, Granted, Restarted, StillDown, Unsure, Refused}
use Rattle.field_bounds.specs.declared.entry.Refusal.{Refusal}
use Rattle.field_bounds.specs.declared.entry.Refusal.TheVariants.{NumbersFull}
use Rattle.field_bounds.specs.Kind.{kind_of}
use Rattle.field_bounds.specs.Effects.{is_begun, is_open, escrows_of}
use Rattle.field_bounds.specs.Owed.{first, refusals, answer, writes, is_up, count_escrows, max_open, max_escrows, free, guarded_rights, room, cut_so_far, told_so_far, gain_of}
use Rattle.field_bounds.proofs.Refused.{up_there}
use Rattle.site_rights.specs.declared.field_rights.FieldRights.{FieldRights}
use Rattle.site_rights.specs.declared.field_rights.Outcome.TheVariants.{Committed}
use Rattle.site_rights.specs.Rights.{free_at, cut_at, guarded_at, room_at, by_escrow, after_take}
use Rattle.escrow_journal.specs.Journal.{Row, is_listed, escrows_at, rows_with}
use Rattle.gift_ledger.specs.Ledger.{total_at, accepted_at, IsSlot}
use Rattle.kept_records.specs.declared.medium.Device.{Device}
use Rattle.kept_records.specs.declared.medium.Mishap.{Mishap}
use Rattle.kept_records.specs.declared.record.Record.{Record}
use Rattle.kept_records.specs.Text.{text, IsRecord}
use Rattle.kept_records.specs.Medium.{AppendFate}
use Rattle.kept_records.specs.Summary.{SummaryValue}
use Rattle.kept_records.specs.Logs.{IsLog}
use Rattle.kept_records.specs.Keeping.{with_due, Appends}
use Rattle.kept_records.specs.Stands.{Lawful, is_summary, plain, since_summary, max_behind, may_follow, piece}
use Rattle.kept_records.proofs.Lines.{same_log}
use Rattle.kept_records.proofs.Summaries.{plain_lawful}
use Rattle.std.specs.List.{flat_map, AllByRecursion}
use Rattle.field_bounds.specs.Limits.{IsSchema}
use Rattle.log_replay.specs.Resuming.{MayFollowNext}
use Rattle.kept_state.specs.Keeps.{record_left}
use Rattle.kept_state.proofs.Adding.{of_one, left_is_own}
use Rattle.kept_records.specs.ReadingBack.{PartsAt, AreBehind}
use Rattle.kept_state.proofs.Written.{written_in_range}
use Rattle.log_replay.specs.declared.standing.Standing.{Standing}
use Rattle.log_replay.specs.Standing.{IsStandingFor}
use Rattle.site_step.specs.declared.accounts.SiteAccounts.{SiteAccounts}
use Rattle.site_step.specs.declared.extent.Extent.{Extent}
use Rattle.site_step.specs.Site.{SiteValue, base_of, here, entry_of, HoldsLog}
use Rattle.site_step.specs.State.{StandsOn, IsSoundSite, counted_from, CanSettle, CanCarry, is_carried, after_settling, with_rights, before_taking_in, one_record_longer}
use Rattle.site_step.proofs.Reading.{Reads, reads}
use Rattle.kept_records.specs.declared.record.Record.TheVariants as records
use Rattle.log_replay.specs.Standing.{HasSlots, CanTakeIn, TakesIn}
use Rattle.log_replay.proofs.StandingLaws.{has_places}
use Rattle.site_step.specs.Resuming.{HoldsBehind, all_bytes, found_by, FailsOver, FullOver, StandsOver}
use Rattle.site_step.proofs.Holding.{plain_append, plain_fewer}
use Rattle.site_step.proofs.Prefixes.{all_first, appends_behind, append_fate_behind}
use Rattle.site_step.proofs.Matching.{stands-journal_of, escrows_at-journal_of}
use Rattle.site_step.proofs.Settling.{carried_no_restart}
use Rattle.site_step.proofs.Standing.{next_is, next_is_closed, room_by, opened_by, few_by, enough_by, end_opened, escrows_are, stands_open, stands_begin, stands_grant, can_settle, stands_settled, can_carry, stands_carried}
use Rattle.site_step.proofs.Ends.{Ends, ends_refused, ends_answered, few_records}
use Rattle.site_step.proofs.Resumes.{stands_next, due_here}
use Rattle.site_step.proofs.Writes.{reached, may, lines_fit, is_there, ends_wrote, ends_unsure}
use Rattle.site_step.proofs.Extents.{reach_seam}
use Rattle.site_step.proofs.Restarts.{held_log, ends_failed, ends_full, few_behind, ends_restarted}

-- one entry more, in a history that was made larger before
pub grew : {new mid old : List Entry} {e : Entry} → new ≡ mid ++ e ∷ [] → mid ≡ old → reverse new ≡ e ∷ reverse old
grew {mid = mid} {e = e} pushed same = ap reverse pushed ∙ reverse-append mid (e ∷ []) ∙ ap (λ (h : List Entry). e ∷ reverse h) same

module _ {v w : SiteValue} {up : Bool} {extent : Extent} {a : SiteAccounts} (was : IsSoundSite v up extent a) (is : v ≡ w) where
  -- what is known of the site as its callers see it, told of the site as it is kept
  none_of : (c : Command) → first (refusals (here w) c) ≡ None → first (refusals (here v) c) ≡ None
  none_of c none = subst (λ (x : SiteValue). first (refusals (here x) c) ≡ None) (sym is) none

  -- what a call leaves, told of the site as its callers see it
  returned : (c : Command) (r : Reply) (x : SiteValue) (u : Bool) (n : Extent) (b : SiteAccounts) → Ends v c r x u n b → Ends w c r x u n b
  returned c r x u n b ends = subst (λ (y : SiteValue). Ends y c r x u n b) is ends

  abbrev After : List Entry → SiteValue
  After h = record v { history = h }

  abbrev Then : List Entry → List ℕ → ℕ → Option Mishap → Option ℕ → SiteValue
  Then h bytes failed left doubt = record v { history = h; bytes = bytes; failed = failed; foretold = left; doubt = doubt }

  -- ---- what is read

  pub stands_now : is_up (base_of w) w.history ≡ true → Reads w.schema w.site.0 (base_of w) w.history a
  stands_now there = reads w up extent a (subst (λ (x : SiteValue). IsSoundSite x up extent a) is was) there

  read : is_up (base_of v) v.history ≡ true → Reads v.schema v.site.0 (base_of v) v.history a
  read there = reads v up extent a was there

  lawful : Lawful v.schema v.site.0 was.records
  lawful = was.lawful

  pub tells_open : is_up (base_of w) w.history ≡ true → (t : TxnId)
      → is_listed t a.journal ≡ (is_begun t (here w).effects && is_open t (here w).effects)
  tells_open there t = ap (is_listed t) (stands_now there).matches.journal ∙ stands-journal_of t (here w).effects

  pub tells_count : is_up (base_of w) w.history ≡ true → (t : TxnId) → (is_begun t (here w).effects && is_open t (here w).effects) ≡ true
      → length (escrows_at t a.journal) ≡ count_escrows t (here w).effects
  tells_count there t opened =
      ap (λ j. length (escrows_at t j)) (stands_now there).matches.journal ∙ ap length (escrows_at-journal_of t (here w).effects opened)
      ∙ length-reverse (escrows_of t (here w).effects)

  pub has_place : is_up (base_of w) w.history ≡ true → {s f : ℕ} → s ≢ w.site.0 → s < w.schema.sites → f < length w.schema.fields
      → IsSlot a.standing.ledger s f
  has_place there {s = s} {f = f} other site_in field_in =
      (stands_now there).holds.place s f (record { other = other; site_in = site_in; field_in = field_in })

  pub tells_free : is_up (base_of w) w.history ≡ true → (f : FieldNo) (k : Kind) → f.0 < length w.schema.fields
      → free_at a.standing.rights f.0 k ≡ free (here w) f k
  tells_free there f k l = let m = (stands_now there).matches in m.free f.0 k (omega (arith, l, m.count))

  pub tells_cut : is_up (base_of w) w.history ≡ true → (f : FieldNo) (k : Kind) → f.0 < length w.schema.fields
      → cut_at a.standing.rights f.0 k ≡ cut_so_far (here w) f k
  tells_cut there f k l = let m = (stands_now there).matches in m.cut f.0 k (omega (arith, l, m.count))

  pub tells_guarded : is_up (base_of w) w.history ≡ true → (f : FieldNo) (k : Kind) → f.0 < length w.schema.fields
      → guarded_at a.standing.rights f.0 k ≡ guarded_rights (here w) f k
  tells_guarded there f k l =
      let m = (stands_now there).matches in
      let l' : f.0 < length a.standing.rights = omega (arith, l, m.count) in
      omega (arith, m.free f.0 k l', m.held f.0 k l', m.cut f.0 k l')

  pub tells_room : is_up (base_of w) w.history ≡ true → (f : FieldNo) → f.0 < length w.schema.fields
      → room_at a.standing.rights f.0 ≡ room (here w) f
  tells_room there f l =
      let m = (stands_now there).matches in
      let l' : f.0 < length a.standing.rights = omega (arith, l, m.count) in
      omega (arith, m.width f.0 l', tells_guarded there f Lower l, tells_guarded there f Raise l)

  pub tells_given : is_up (base_of w) w.history ≡ true → (to : SiteNo) (f : FieldNo) (k : Kind) → to.0 ≢ w.site.0 → to.0 < w.schema.sites
      → f.0 < length w.schema.fields
      → total_at a.standing.ledger to.0 f.0 k ≡ told_so_far (here w) to f k
  tells_given there to f k other site_in field_in =
      (stands_now there).holds.given to.0 f.0 k (record { other = other; site_in = site_in; field_in = field_in })

  pub tells_gain : is_up (base_of w) w.history ≡ true → (from : SiteNo) (f : FieldNo) (k : Kind) (total : ℕ) → from.0 ≢ w.site.0
      → from.0 < w.schema.sites → f.0 < length w.schema.fields
      → total - accepted_at a.standing.ledger from.0 f.0 k ≡ gain_of (here w) from f k total
  tells_gain there from f k total other site_in field_in =
      ap (λ (n : ℕ). total - n) ((stands_now there).holds.accepted from.0 f.0 k
      (record { other = other; site_in = site_in; field_in = field_in }))

  pub holds_log : HoldsLog w
  holds_log =
      let s = was in
      subst HoldsLog is
      (record {
        records = plain s.records;
        rest = s.rest;
        kept = s.kept;
        log = record { all = s.records; log = s.log; lawful = s.lawful; told = refl };
        keeps = s.keeps;
        lawful = plain_lawful v.schema v.site.0 s.records s.lawful;
        few = s.few;
      })

  -- ---- a refusal

  pub refuses : (c : Command) (x : Refusal) {h : List Entry} → first (refusals (here w) c) ≡ Some x
      → h ≡ entry_of v c (Refused x) ∷ v.history
      → Ends w c (Refused x) (After h) up extent a
  refuses c x {h = h} some past =
      returned c (Refused x) (After h) up extent a
      (ends_refused v up extent a was c x h past (subst (λ (y : SiteValue). first (refusals (here y) c) ≡ Some x) (sym is) some))

  -- ---- an answer that writes no record

  pub can : (c : Command) → first (refusals (here w) c) ≡ None → is_carried c ≡ true → CanSettle a c
  can c none plain =
      can_settle v.schema v.site.0 (base_of v) v.history a was.run
      (read (up_there (here v) c (carried_no_restart c plain) (none_of c none))) c (none_of c none)

  pub answers : (c : Command) (r : Reply) {h : List Entry} {b : SiteAccounts} → first (refusals (here w) c) ≡ None → is_carried c ≡ true
      → writes (here w) c ≡ false → r ≡ answer (here w) c
      → b ≡ after_settling a c → h ≡ entry_of v c r ∷ v.history → Ends w c r (After h) up extent b
  answers c r {h = h} {b = b} none plain silent owed did past =
      let n = carried_no_restart c plain in
      let there = up_there (here v) c n (none_of c none) in
      let quiet = subst (λ (x : SiteValue). writes (here x) c ≡ false) (sym is) silent in
      returned c r (After h) up extent b
      (subst (λ (x : SiteAccounts). Ends v c r (After h) up extent x) (sym did)
      (ends_answered v up extent a was c (after_settling a c) r h (subst (λ (x : SiteValue). r ≡ answer (here x) c) (sym is) owed) past n
      (none_of c none) quiet
      (stands_settled v.schema v.site.0 (base_of v) v.history a was.run (read there) was.records (was.stands there) v.site c plain quiet
      (none_of c none))))

  -- ---- an answer whose record is written

  -- the site counts so many at most
  few_counted : (past based : List Record) (e : Extent) → extent ≡ counted_from (length (plain past)) e → v.based ≡ past ++ based
      → extent.count ≤ length (plain v.based) + length v.history → e.count ≤ length based + length v.history
  few_counted past based e counted parts few =
      omega (
        arith,
        few,
        ap (λ (x : Extent). x.count) counted,
        ap (λ (x : List Record). length (plain x)) parts,
        ap length (plain_append past based),
        length-append (plain past) (plain based),
        plain_fewer based,
      )

  module _ (c : Command) (none : first (refusals (here w) c) ≡ None) {kept : Record} (kept_is : record_left (here w) c ≡ kept ∷ []) where
    abbrev unrefused : first (refusals (here v) c) ≡ None
    unrefused = none_of c none

    noted : record_left (here v) c ≡ kept ∷ []
    noted = subst (λ (x : SiteValue). record_left (here x) c ≡ kept ∷ []) (sym is) kept_is

    pub record_fits : IsRecord kept
    record_fits =
        of_one IsRecord noted
        (written_in_range v.schema v.site.0 (base_of v) (plain v.based) was.ground.is_base was.ground.based_on was.kept v.history
        (plain was.records) was.ground.limits was.ground.site_in was.run was.keeps c
        was.ground.epoch_in unrefused)

    pub record_plain : is_summary kept ≡ false
    record_plain = (left_is_own (here v) c noted).1

    there_now : is_up (base_of v) v.history ≡ true
    there_now = is_there v up extent a was c unrefused kept noted record_fits

    may_now : may_follow v.schema v.site.0 was.records kept ≡ true
    may_now = may v up extent a was c unrefused kept noted record_fits

    pub can_write : CanCarry v.schema a kept
    can_write =
        of_one (λ (r : Record). may_follow v.schema v.site.0 was.records r ≡ true → CanCarry v.schema a r) noted
        (can_carry v.schema v.site.0 (base_of v) v.history a was.run (read there_now) was.records
        (was.stands there_now) was.lawful c unrefused) may_now

    -- the summary that is due
    next : MayFollowNext v.schema a.standing was.records kept
    next =
        stands_next v.schema a.standing v.site.0 was.records kept was.ground.site_in was.log.each was.lawful
        (was.stands there_now).standing may_now

    pub can_due : (rs : List Record) × MayFollowNext v.schema a.standing rs kept
    can_due = (was.records, next)

    due_now : (due : Option SummaryValue)
        → ((rs : List Record) → MayFollowNext v.schema a.standing rs kept → extent.behind ≡ since_summary rs
        → with_due kept due ≡ piece v.schema a.standing.ledger.site rs kept)
        → with_due kept due ≡ piece v.schema v.site.0 was.records kept
    due_now due told_ =
        due_here v.schema a.standing v.site.0 was.records kept due (was.stands there_now).standing
        (told_ was.records next (reached v up extent a was c unrefused kept noted record_fits).behind)

    pub due_is : (due : Option SummaryValue)
        → ((rs : List Record) → MayFollowNext v.schema a.standing rs kept → extent.behind ≡ since_summary rs
        → with_due kept due ≡ piece v.schema a.standing.ledger.site rs kept)
        → (rs : List Record) (rest : List ℕ) → IsLog w.bytes rs rest → with_due kept due ≡ piece w.schema w.site.0 rs kept
    due_is due told_ rs rest log =
        let same = (same_log v.bytes was.records rs was.rest rest was.log (subst (λ (x : SiteValue). IsLog x.bytes rs rest) (sym is) log)).0
        in
        due_now due told_ ∙ ap (λ (x : List Record). piece v.schema v.site.0 x kept) same
        ∙ ap (λ (x : SiteValue). piece x.schema x.site.0 rs kept) is

    pub due_fits : (due : Option SummaryValue)
        → ((rs : List Record) → MayFollowNext v.schema a.standing rs kept → extent.behind ≡ since_summary rs
        → with_due kept due ≡ piece v.schema a.standing.ledger.site rs kept)
        → AllByRecursion IsRecord (with_due kept due)
    due_fits due told_ =
        subst (λ (ps : List Record). AllByRecursion IsRecord ps) (sym (due_now due told_))
        (lines_fit v up extent a was c unrefused kept noted record_fits)

    -- where none is due, the record is all that is appended
    pub none_due : nat_le max_behind (extent.behind + 1) ≡ false
        → (rs : List Record) (rest : List ℕ) → IsLog v.bytes rs rest → with_due kept None ≡ piece v.schema v.site.0 rs kept
    none_due off rs rest log =
        let same = (same_log v.bytes was.records rs was.rest rest was.log log).0 in
        let behind : extent.behind ≡ since_summary rs = (reached v up extent a was c unrefused kept noted record_fits).behind ∙ ap since_summary same in
        let none_now : nat_le max_behind (since_summary rs + 1) ≡ false = ap (λ (n : ℕ). nat_le max_behind (n + 1)) (sym behind) ∙ off in
        rw none_now refl

    -- the lines that are appended
    lines_are : (due : Option SummaryValue)
        → ((rs : List Record) (rest : List ℕ) → IsLog v.bytes rs rest → with_due kept due ≡ piece v.schema v.site.0 rs kept)
        → flat_map text (with_due kept due) ≡ flat_map text (piece v.schema v.site.0 was.records kept)
    lines_are due told_ = ap (flat_map text) (told_ was.records was.rest was.log)

    pub few_written : (past based : List Record) (e : Extent) → extent ≡ counted_from (length (plain past)) e → v.based ≡ past ++ based
        → e.count ≤ length based + length v.history
    few_written past based e counted parts =
        few_counted past based e counted parts (omega (arith, (reached v up extent a was c unrefused kept noted record_fits).count, few_records v up extent a was))

    pub wrote : (r : Reply) (due : Option SummaryValue) (old : List ℕ) {h : List Entry} {b : SiteAccounts} {bytes : List ℕ} {failed : ℕ}
        {left : Option Mishap} {size : ℕ} {later : Extent}
        → v.bytes ≡ all_bytes v.gone old
        → r ≡ answer (here w) c
        → ((rs : List Record) (rest : List ℕ) → IsLog v.bytes rs rest → with_due kept due ≡ piece v.schema v.site.0 rs kept)
        → TakesIn v.schema (before_taking_in a kept).standing kept true b.standing → b.journal ≡ (before_taking_in a kept).journal
        → b.last ≡ a.last
        → Appends {T = Unit {0}} {E = Device} (Ok tt) old (flat_map text (with_due kept due)) bytes v.failed failed
        → AppendFate {E = Device} v.foretold old (flat_map text (with_due kept due)) (Ok tt) bytes left
        → h ≡ entry_of v c r ∷ v.history → size ≡ length (flat_map text (with_due kept due)) → later ≡ one_record_longer extent size
        → Ends w c r (Then h (all_bytes v.gone bytes) failed left v.doubt) up later b
    wrote r due old {h = h} {b = b} {bytes = bytes} {failed = failed} {left = left} {size = size} {later =
        later} whole owed told_ took open_ last_is added fate past long more =
        let lines = lines_are due told_ in
        let new : List ℕ = all_bytes v.gone bytes in
        let line = subst (λ (x : List ℕ). Appends {T = Unit {0}} {E = Device} (Ok tt) v.bytes x new v.failed failed) lines
        (subst (λ (x : List ℕ). Appends {T = Unit {0}} {E = Device} (Ok tt) x (flat_map text (with_due kept due)) new v.failed failed)
        (sym whole) (appends_behind (flat_map text v.gone) {T = Unit {0}} {E = Device} (Ok tt) old (flat_map text (with_due kept due)) bytes
        v.failed failed added)) in
        returned c r (Then h new failed left v.doubt) up later b
        (subst (λ (e : Extent). Ends v c r (Then h new failed left v.doubt) up e b)
        (sym (more ∙ ap (one_record_longer extent) (long ∙ ap length lines)))
        (ends_wrote v up extent a was c unrefused kept noted record_fits b new failed left r h
        (subst (λ (x : SiteValue). r ≡ answer (here x) c) (sym is) owed) past
        (of_one (λ (x : Record). TakesIn v.schema (before_taking_in a x).standing x true b.standing
        → b.journal ≡ (before_taking_in a x).journal → b.last ≡ a.last
        → StandsOn v.schema v.site.0 (base_of v) (entry_of v c (answer (here v) c) ∷ v.history) (was.records ++ x ∷ []) b) noted
        (stands_carried v.schema v.site.0 (base_of v) v.history a was.run (read there_now) was.records
        (was.stands there_now) was.lawful v.site c unrefused b) took open_ last_is) line.0 line.1
        (subst (λ (x : List ℕ). AppendFate {E = Device} v.foretold v.bytes x (Ok tt) new left) lines
        (subst (λ (x : List ℕ). AppendFate {E = Device} v.foretold x (flat_map text (with_due kept due)) (Ok tt) new left) (sym whole)
        (append_fate_behind (flat_map text v.gone) {E = Device} v.foretold old (flat_map text (with_due kept due)) (Ok tt) bytes left
        fate)))))

    pub unsure : (due : Option SummaryValue)
        (device : Device) (old : List ℕ) {h : List Entry} {bytes : List ℕ} {failed : ℕ} {left : Option Mishap}
        → v.bytes ≡ all_bytes v.gone old
        → ((rs : List Record) (rest : List ℕ) → IsLog v.bytes rs rest → with_due kept due ≡ piece v.schema v.site.0 rs kept)
        → Appends {T = Unit {0}} (Err device) old (flat_map text (with_due kept due)) bytes v.failed failed
        → AppendFate v.foretold old (flat_map text (with_due kept due)) (Err device) bytes left
        → h ≡ entry_of v c Unsure ∷ v.history
        → Ends w c Unsure (Then h (all_bytes v.gone bytes) failed left (Some extent.count)) false extent a
    unsure due device old {h = h} {bytes = bytes} {failed = failed} {left = left} whole told_ added fate past =
        let lines = lines_are due told_ in
        let new : List ℕ = all_bytes v.gone bytes in
        let line = subst (λ (x : List ℕ). Appends {T = Unit {0}} (Err device) v.bytes x new v.failed failed) lines
        (subst (λ (x : List ℕ). Appends {T = Unit {0}} (Err device) x (flat_map text (with_due kept due)) new v.failed failed) (sym whole)
        (appends_behind (flat_map text v.gone) {T = Unit {0}} (Err device) old (flat_map text (with_due kept due)) bytes v.failed failed
        added)) in
        returned c Unsure (Then h new failed left (Some extent.count)) false extent a
        (ends_unsure v up extent a was c unrefused kept noted record_fits a new failed left device Unsure h refl past line.0 line.1
        (subst (λ (x : List ℕ). AppendFate v.foretold v.bytes x (Err device) new left) lines
        (subst (λ (x : List ℕ). AppendFate v.foretold x (flat_map text (with_due kept due)) (Err device) new left) (sym whole)
        (append_fate_behind (flat_map text v.gone) v.foretold old (flat_map text (with_due kept due)) (Err device) bytes left fate))))

  -- ---- a begin

  module _ (none : first (refusals (here w) Begin) ≡ None) where
    stood : is_up (base_of v) v.history ≡ true
    stood = up_there (here v) Begin refl (none_of Begin none)

    abbrev t : TxnId
    t = record { epoch = a.standing.epoch; number = a.last + 1 }

    pub begin_is_new : is_listed t a.journal ≡ false
    begin_is_new = next_is_closed v.schema v.site.0 (base_of v) v.history a was.run (read stood)

    pub begin_has_room : length a.journal < max_open
    begin_has_room = room_by v.schema v.site.0 (base_of v) v.history a was.run (read stood) (none_of Begin none)

    pub begins : {h : List Entry} {j : List Row} → j ≡ a.journal ++ (t, []) ∷ [] → h ≡ entry_of v Begin (Begun t) ∷ v.history
        → Ends w Begin (Begun t) (After h) up extent (record a { journal = j; last = a.last + 1 })
    begins {h = h} {j = j} row past =
        let begun : ◌≡◌ {A = Reply} (Begun t) (answer (here v) Begin) =
        ap (λ (x : TxnId). Begun x) (next_is v.schema v.site.0 (base_of v) v.history a was.run (read stood)) in
        let more : List Row → SiteAccounts = λ j. record a { journal = j; last = a.last + 1 } in
        let b = more (a.journal ++ (t, []) ∷ []) in
        returned Begin (Begun t) (After h) up extent (more j)
        (subst (λ (x : List Row). Ends v Begin (Begun t) (After h) up extent (more x)) (sym row)
        (ends_answered v up extent a was Begin b (Begun t) h begun past refl (none_of Begin none) refl
        (subst (λ (r : Reply). StandsOn v.schema v.site.0 (base_of v) (entry_of v Begin r ∷ v.history) was.records b) begun
        (stands_begin v.schema v.site.0 (base_of v) v.history a was.run (read stood) was.records (was.stands stood) v.site))))

  -- ---- a grant

  module _ (txn : TxnId) (e : Escrow) (none : first (refusals (here w) (Ask txn e.field e.change)) ≡ None) where
    abbrev ask : Command
    ask = Ask txn e.field e.change

    held : is_up (base_of v) v.history ≡ true
    held = up_there (here v) ask refl (none_of ask none)

    pub grant_opened : is_listed txn a.journal ≡ true
    grant_opened =
        stands_open v.schema v.site.0 (base_of v) v.history a was.run (read held) txn
        (opened_by v.schema v.site.0 (base_of v) v.history a was.run (read held) txn e (none_of ask none))

    pub grant_has_room : length (escrows_at txn a.journal) < max_escrows
    grant_has_room = few_by v.schema v.site.0 (base_of v) v.history a was.run (read held) txn e (none_of ask none)

    pub grant_has_rights : unsigned_abs e.change ≤ free_at a.standing.rights e.field.0 (kind_of e.change)
    grant_has_rights = enough_by v.schema v.site.0 (base_of v) v.history a was.run (read held) txn e (none_of ask none)

    pub grants : {h : List Entry} {rows : List FieldRights} {j : List Row} → rows ≡ by_escrow after_take a.standing.rights e
        → j ≡ rows_with txn e a.journal → h ≡ entry_of v ask Granted ∷ v.history
        → Ends w ask Granted (After h) up extent (record (with_rights rows a) { journal = j })
    grants {h = h} {rows = rows} {j = j} took row past =
        let more : List FieldRights → List Row → SiteAccounts = λ x y. record (with_rights x a) { journal = y } in
        returned ask Granted (After h) up extent (more rows j)
        (subst (λ (x : List FieldRights). Ends v ask Granted (After h) up extent (more x j)) (sym took)
        (subst (λ (y : List Row). Ends v ask Granted (After h) up extent (more (by_escrow after_take a.standing.rights e) y)) (sym row)
        (ends_answered v up extent a was ask (more (by_escrow after_take a.standing.rights e) (rows_with txn e a.journal)) Granted h refl
        past refl (none_of ask none) refl
        (stands_grant v.schema v.site.0 (base_of v) v.history a was.run (read held) was.records (was.stands held) v.site txn e
        (none_of ask none)))))

  -- ---- a commit

  module _ (txn : TxnId) (none : first (refusals (here w) (Commit txn)) ≡ None) where
    there_ : Reads w.schema w.site.0 (base_of w) w.history a
    there_ = stands_now (up_there (here w) (Commit txn) refl none)

    run_now : IsSoundSite w up extent a
    run_now = subst (λ (x : SiteValue). IsSoundSite x up extent a) is was

    opened : (is_begun txn (here w).effects ≡ true) × (is_open txn (here w).effects ≡ true)
    opened = end_opened w.schema w.site.0 (base_of w) w.history a run_now.run there_ Committed txn none

    pub commit_opened : is_listed txn a.journal ≡ true
    commit_opened = stands_open w.schema w.site.0 (base_of w) w.history a run_now.run there_ txn opened

    pub commit_escrows : escrows_at txn a.journal ≡ reverse (escrows_of txn (here w).effects)
    commit_escrows = escrows_are w.schema w.site.0 (base_of w) w.history a run_now.run there_ txn opened

    pub commit_count : {es : List Escrow} → es ≡ escrows_at txn a.journal → count_escrows txn (here w).effects ≡ length es
    commit_count {es = es} are = sym (ap length (are ∙ commit_escrows) ∙ length-reverse (escrows_of txn (here w).effects))

  -- ---- a restart

  -- what the medium holds
  pub holds_behind : {old : List ℕ} → v.bytes ≡ all_bytes v.gone old → HoldsBehind v.schema v.site.0 v.gone was.held was.rest old
  holds_behind whole =
      record {
        log = held_log v up extent a was whole;
        each = all_first v.gone was.held (subst (λ (x : List Record). AllByRecursion IsRecord x) was.parts was.log.each);
        lawful = subst (λ (x : List Record). Lawful v.schema v.site.0 x) was.parts was.lawful;
        begins = was.begins;
      }

  pub held_log_now : {old : List ℕ} → v.bytes ≡ all_bytes v.gone old
      → (gone : List Record) × (held : List Record) × (rest : List ℕ) × HoldsBehind v.schema v.site.0 gone held rest old
  held_log_now whole = (v.gone, was.held, was.rest, holds_behind whole)

  pub limits : IsSchema v.schema
  limits = was.ground.limits

  abbrev ThenReplayed : List Entry → List ℕ → ℕ → Option Mishap → Option ℕ → ℕ → SiteValue
  ThenReplayed h bytes failed left doubt n = record v {
    history = h;
    bytes = bytes;
    failed = failed;
    foretold = left;
    doubt = doubt;
    replayed = n;
  }

  pub fails : (turns : Option ℕ) (n : ℕ) (old : List ℕ) {h : List Entry} {bytes : List ℕ} {failed : ℕ} {left : Option Mishap}
      → v.bytes ≡ all_bytes v.gone old
      → FailsOver v.schema v.site.0 (v.gone ++ was.held) turns was.rest (all_bytes v.gone old) bytes v.foretold left v.failed failed
      → n ≡ unwrap_or turns v.replayed
      → h ≡ entry_of v Restart StillDown ∷ v.history → Ends w Restart StillDown (ThenReplayed h bytes failed left v.doubt n) false extent a
  fails turns n old {h = h} {bytes = bytes} {failed = failed} {left = left} whole did told past =
      returned Restart StillDown (ThenReplayed h bytes failed left v.doubt n) false extent a
      (ends_failed v up extent a was a turns n bytes failed left h past
      (subst (λ (x : List ℕ). FailsOver v.schema v.site.0 was.records turns was.rest x bytes v.foretold left v.failed failed) (sym whole)
      (subst (λ (x : List Record). FailsOver v.schema v.site.0 x turns was.rest (all_bytes v.gone old) bytes v.foretold left v.failed failed) (sym was.parts)
      did)) told)

  pub fills : (old : List ℕ) {h : List Entry} {bytes : List ℕ} {failed : ℕ} {left : Option Mishap}
      → v.bytes ≡ all_bytes v.gone old
      → FullOver (v.gone ++ was.held) (all_bytes v.gone old) bytes v.foretold left v.failed failed
      → h ≡ entry_of v Restart (Refused NumbersFull) ∷ v.history
      → Ends w Restart (Refused NumbersFull) (Then h bytes failed left v.doubt) up extent a
  fills old {h = h} {bytes = bytes} {failed = failed} {left = left} whole did past =
      returned Restart (Refused NumbersFull) (Then h bytes failed left v.doubt) up extent a
      (ends_full v up extent a was bytes failed left h past
      (subst (λ (x : List ℕ). FullOver was.records x bytes v.foretold left v.failed failed) (sym whole)
      (subst (λ (x : List Record). FullOver x (all_bytes v.gone old) bytes v.foretold left v.failed failed) (sym was.parts) did)))

  pub seam : {old : List ℕ} → v.bytes ≡ all_bytes v.gone old → PartsAt old extent.length
  seam {old = old} whole = reach_seam extent old v.gone was.held was.rest (held_log v up extent a was whole) was.reaches

  -- how a restart went, told of all records
  abbrev Stood : (standing : Standing) (epoch turns size : ℕ) (rest old bytes : List ℕ) (left : Option Mishap) (failed : ℕ)
      (behind : List Record) → Type 0
  Stood standing epoch turns size rest old bytes left failed behind =
      StandsOver v.schema v.site.0 was.held (v.gone ++ was.held) epoch turns size rest bytes v.foretold left v.failed failed
      × IsStandingFor v.schema v.site.0 (v.gone ++ was.held) standing × AreBehind old extent.length behind

  stood_all : {standing : Standing} {epoch turns size : ℕ} {rest old bytes : List ℕ} {left : Option Mishap} {failed : ℕ}
      {behind : List Record} → Stood standing epoch turns size rest old bytes left failed behind
      → StandsOver v.schema v.site.0 was.held was.records epoch turns size rest bytes v.foretold left v.failed failed
      × IsStandingFor v.schema v.site.0 was.records standing
  stood_all {standing = standing} {epoch = epoch} {turns = turns} {size = size} {rest = rest} {bytes = bytes} {left = left} {failed =
      failed} did =
      subst (λ (x : List Record). StandsOver v.schema v.site.0 was.held x epoch turns size rest bytes v.foretold left v.failed failed
      × IsStandingFor v.schema v.site.0 x standing) (sym was.parts) (did.0, did.1)

  pub can_restart : (standing : Standing) (epoch : ℕ) {turns size : ℕ} {rest old bytes : List ℕ} {failed : ℕ} {left : Option Mishap}
      {behind : List Record}
      → Stood standing epoch turns size rest old bytes left failed behind
      → HasSlots v.schema standing.rights standing.ledger × CanTakeIn v.schema standing (records.Restart epoch)
      × IsRecord (records.Restart epoch)
  can_restart standing epoch did = (
    has_places v.schema v.site.0 (v.gone ++ was.held) standing.rights standing.ledger standing.epoch did.1.for_,
    omega (arith, did.0.epoch_is, did.1.for_.epoch),
    (omega (arith, did.0.epoch_is), omega (arith, did.0.epoch_is, did.0.some)),
  )

  pub few_more : (old : List ℕ) (past based : List Record) (e : Extent) → v.bytes ≡ all_bytes v.gone old
      → extent ≡ counted_from (length (plain past)) e → v.based ≡ past ++ based → (behind : List Record) → AreBehind old e.length behind
      → e.count + length (plain behind) ≤ length based + length v.history
  few_more old past based e whole counted parts behind are =
      let long : e.length ≡ extent.length = sym (ap (λ (x : Extent). x.length) counted) in
      let at : e.count + length (plain past) ≡ extent.count = omega (arith, ap (λ (x : Extent). x.count) counted) in
      omega (
        arith,
        at,
        few_behind v up extent a was whole behind (subst (λ (n : ℕ). AreBehind old n behind) long are),
        few_records v up extent a was,
        ap (λ (x : List Record). length (plain x)) parts,
        ap length (plain_append past based),
        length-append (plain past) (plain based),
        plain_fewer based,
      )

  pub restarts : (standing : Standing) (behind : List Record) (epoch turns size behinds : ℕ)
      (last : Last) {h : List Entry} {b : SiteAccounts} {more : ℕ} {old bytes : List ℕ} {failed : ℕ} {left : Option Mishap} {later : Extent}
      → v.bytes ≡ all_bytes v.gone old
      → Stood standing epoch turns size was.rest old bytes left failed behind
      → TakesIn v.schema standing (records.Restart epoch) true b.standing → b.journal ≡ [] → b.last ≡ 0 → last ≡ found_by v.doubt behind
      → more ≡ length (plain behind)
      → behinds ≡ (if nat_le max_behind (turns + 1) then 0 else turns + 1)
      → h ≡ entry_of v Restart (Restarted epoch last) ∷ v.history
      → later ≡ record { count = extent.count + more + 1; length = size; behind = behinds }
      → Ends w Restart (Restarted epoch last) (ThenReplayed h bytes failed left None turns) true later b
  restarts standing behind epoch turns size behinds last {h = h} {b = b} {more = more} {old = old} {bytes = bytes} {failed = failed} {left =
      left} {later = later} whole did took open_ last_is last_by_ counted behinds_are past reached =
      let r : Reply = Restarted epoch last in
      let all = stood_all did in
      returned Restart r (ThenReplayed h bytes failed left None turns) true later b
      (subst (λ (e : Extent). Ends v Restart r (ThenReplayed h bytes failed left None turns) true e b) (sym reached)
      (ends_restarted v up extent a was standing behind epoch turns size behinds b old bytes failed left r more h whole all.1 all.0 did.2
      took open_ last_is (ap (λ (l : Last). Restarted epoch l) last_by_) counted
      behinds_are past))
