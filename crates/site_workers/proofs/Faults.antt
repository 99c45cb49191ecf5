-- What faults say, from what was found.
use Rattle.std.proofs.Common.{◌≡◌, ◌≢◌, ℕ, ◌+◌, ◌<◌, ◌≤◌, List, [], ◌∷◌, length, get_or, reverse, refl, sym, ap, subst, ◌∙◌, inl, inr, ⊎_elim, arith, zero, suc, true, Some}
use Rattle.std.specs.Prelude.{IfSome}
use Rattle.std.proofs.lemmas.Bool.{cases_lt}
use Rattle.std.proofs.lemmas.List.{get_or_past, reverse-reverse}
use Rattle.std.proofs.lemmas.Option.{same_Some}
use Rattle.std.specs.Global.{Vec}
use Rattle.field_bounds.specs.declared.id.SiteNo.{SiteNo}
use Rattle.field_bounds.specs.declared.entry.Statement.{Statement}
use Rattle.field_bounds.specs.declared.entry.Command.{Command}
use Rattle.field_bounds.specs.declared.entry.Command.TheVariants.{Give, Restate, Spare}
use Rattle.field_bounds.specs.declared.entry.Reply.{Reply}
use Rattle.field_bounds.specs.declared.entry.Reply.TheVariants.{Given, Stated, Spared}
use Rattle.field_bounds.specs.declared.entry.Entry.{Entry}
use Rattle.field_bounds.specs.Schema.{SchemaValue}
use Rattle.field_bounds.specs.Effects.{Base, fresh}
use Rattle.field_bounds.specs.Owed.{Place, place, Fits, IsRun}
use Rattle.field_bounds.specs.Statements.{told_by, IsIssued}
use Rattle.field_bounds.specs.Central.{AreOf}
use Rattle.field_bounds.proofs.Refused.{answered, give_is_to_a_site, restate_is_to_a_site, spare_is_to_a_site}
use Rattle.site_step.specs.Site.{SiteValue, base_of}
use Rattle.site_desk.specs.declared.fault.DeskFault.{DeskFault}
use Rattle.site_desk.specs.declared.fault.DeskFault.TheVariants as desk_faults
use Rattle.site_desk.specs.Faults.{Fails}
use Rattle.site_desk.specs.declared.locked.Receipt.{Receipt}
use Rattle.work_faults.specs.declared.receipts.ReceiptFault.{ReceiptFault}
use Rattle.work_faults.specs.declared.receipts.ReceiptFault.TheVariants as receipt_faults
use Rattle.site_desk.specs.ReceiptFaults.{TellsReceipts}
use Rattle.work_faults.specs.declared.workers.WorkFault.{WorkFault}
use Rattle.work_faults.specs.declared.workers.WorkFault.TheVariants.{GateTurns, WentBack, Passes, Receipts, Foreign, Lost, NoMemory}
use Rattle.site_workers.specs.declared.site_fault.SiteFault.{SiteFault}
use Rattle.site_workers.specs.declared.site_fault.SiteFault.TheVariants.{Worker, Courier, Close}
use Rattle.site_workers.specs.Scripts.{histories_of, history_at, HasAccept, AreWorked, NoneForeign, ScriptsFit}
use Rattle.site_workers.specs.Crossing.{IsLowestForeign, IsLowestLost, Lacks}
use Rattle.site_workers.specs.Faults.{fault_of_call, fault_of_receipts, fault_of, IsCourierFault, Differs, IsFaultAt, IsFaultOf, IsSiteFault, ShowsForeign, ShowsLost, TellsForeign, TellsLost, TellsDiffers, TellsTurned, TurnsNone, site_named}
use Rattle.site_workers.proofs.Scripts.{of_reversed, on_fresh}
use Rattle.site_workers.proofs.Teams.{worked_count}

-- ---- one site

call_told : (schema : SchemaValue) (site : SiteNo) (Turns : SiteNo → ℕ → Type 0) (e : DeskFault)
    → (e ≡ desk_faults.GateTurns → (call : ℕ) × Turns site call)
    → IsFaultAt schema site Turns (fault_of_call site e)
call_told schema site Turns desk_faults.NoMemory turned = tt
call_told schema site Turns (desk_faults.WentBack n) turned = refl
call_told schema site Turns desk_faults.GateTurns turned = turned refl

pub call_fault : (schema : SchemaValue) (site named : SiteNo) (Turns : SiteNo → ℕ → Type 0) (call : ℕ) (e : DeskFault) (w : WorkFault)
    → w ≡ fault_of_call named e → named ≡ site → (e ≡ desk_faults.GateTurns → Turns site call)
    → IsFaultAt schema site Turns w
call_fault schema site named Turns call e w is at turned =
    subst (λ (x : WorkFault). IsFaultAt schema site Turns x) (sym (is ∙ ap (λ (n : SiteNo). fault_of_call n e) at))
    (call_told schema site Turns e (λ gate. (call, turned gate)))

courier_told : (site : SiteNo) (last : ℕ) (e : DeskFault) → Fails last e → IsCourierFault site (fault_of_call site e)
courier_told site last desk_faults.NoMemory fails = tt
courier_told site last (desk_faults.WentBack n) fails = refl
courier_told site last desk_faults.GateTurns fails = absurd fails

pub courier_call : (site named : SiteNo) (last : ℕ) (e : DeskFault) (w : WorkFault) → w ≡ fault_of_call named e → named ≡ site
    → Fails last e → IsCourierFault site w
courier_call site named last e w is at fails =
    subst (λ (x : WorkFault). IsCourierFault site x) (sym (is ∙ ap (λ (n : SiteNo). fault_of_call n e) at)) (courier_told site last e fails)

-- ---- receipts that differ

differs_told : (schema : SchemaValue) (site : SiteNo) (Turns : SiteNo → ℕ → Type 0) (fault : ReceiptFault)
    → (fault ≢ receipt_faults.NoMemory → Differs schema site fault) → IsFaultAt schema site Turns (fault_of_receipts fault)
differs_told schema site Turns (receipt_faults.Differs at number) differs = differs (λ e. cc)
differs_told schema site Turns (receipt_faults.Twice at number) differs = differs (λ e. cc)
differs_told schema site Turns (receipt_faults.Missing at number) differs = differs (λ e. cc)
differs_told schema site Turns receipt_faults.NoMemory differs = tt

pub differs_fault : (v : SiteValue) (schema : SchemaValue) (site : SiteNo) (Turns : SiteNo → ℕ → Type 0) (rs : List Receipt)
    (fault : ReceiptFault) (w : WorkFault)
    → w ≡ fault_of_receipts fault → v.schema ≡ schema → v.site ≡ site → v.fresh ≡ true
    → IsRun v.schema v.site.0 (base_of v) v.history → AreOf v.site.0 v.history → TellsReceipts v.site (reverse v.history) rs fault
    → IsFaultAt schema site Turns w
differs_fault v schema site Turns rs fault w is of number freshly run own told =
    let turned : v.history ≡ reverse (reverse v.history) = sym (reverse-reverse v.history) in
    let mine : AreOf site.0 v.history = subst (λ (n : SiteNo). AreOf n.0 v.history) number own in
    subst (λ (x : WorkFault). IsFaultAt schema site Turns x) (sym is)
    (differs_told schema site Turns fault (λ known. record {
      history = reverse v.history;
      receipts = rs;
      run = subst (λ (l : List Entry). IsRun schema site.0 (fresh schema site.0) l) turned (on_fresh v schema site of number freshly run);
      own = of_reversed site.0 (reverse v.history) (subst (λ (l : List Entry). AreOf site.0 l) turned mine);
      told = subst (λ (n : SiteNo). TellsReceipts n (reverse v.history) rs fault) number told;
      known = known;
    }))

-- ---- of some site

pub of_site : (schema : SchemaValue) (Turns : SiteNo → ℕ → Type 0) (site : SiteNo) (w : WorkFault) → site.0 < schema.sites
    → IsFaultAt schema site Turns w → IsSiteFault schema Turns w
of_site schema Turns site GateTurns below c = (site, below, c.0, c.1)
of_site schema Turns site (WentBack named n) below c = subst (λ (s : SiteNo). s.0 < schema.sites) (sym c) below
of_site schema Turns site (Passes named) below c = subst (λ (s : SiteNo). s.0 < schema.sites) (sym c) below
of_site schema Turns site (Receipts fault) below c = record { site = site; known = below; differs = c }
of_site schema Turns site (Foreign named) below c = absurd c
of_site schema Turns site (Lost named) below c = absurd c
of_site schema Turns site NoMemory below c = tt

courier_at : (schema : SchemaValue) (Turns : SiteNo → ℕ → Type 0) (site : SiteNo) (w : WorkFault) → IsCourierFault site w
    → IsFaultAt schema site Turns w
courier_at schema Turns site GateTurns c = absurd c
courier_at schema Turns site (WentBack named n) c = c
courier_at schema Turns site (Passes named) c = absurd c
courier_at schema Turns site (Receipts fault) c = absurd c
courier_at schema Turns site (Foreign named) c = absurd c
courier_at schema Turns site (Lost named) c = absurd c
courier_at schema Turns site NoMemory c = tt

close_at : (schema : SchemaValue) (Turns : SiteNo → ℕ → Type 0) (site : SiteNo) (w : WorkFault) → IsFaultAt schema site TurnsNone w
    → IsFaultAt schema site Turns w
close_at schema Turns site GateTurns c = absurd c.1
close_at schema Turns site (WentBack named n) c = c
close_at schema Turns site (Passes named) c = c
close_at schema Turns site (Receipts fault) c = c
close_at schema Turns site (Foreign named) c = absurd c
close_at schema Turns site (Lost named) c = absurd c
close_at schema Turns site NoMemory c = tt

pub fault_at : (schema : SchemaValue) (Turns : SiteNo → ℕ → Type 0) (site : SiteNo) (script : List Command) (f : SiteFault)
    → IsFaultOf schema Turns site script f → IsFaultAt schema site Turns (fault_of f)
fault_at schema Turns site script (Worker w) c = c
fault_at schema Turns site script (Courier w rs) c = courier_at schema Turns site w c.0
fault_at schema Turns site script (Close w rs) c = close_at schema Turns site w c.0

pub no_foreign_told : (schema : SchemaValue) (scripts : List (List Command)) (Turns : SiteNo → ℕ → Type 0) (w : WorkFault)
    → IsSiteFault schema Turns w
    → TellsForeign schema scripts w
no_foreign_told schema scripts Turns GateTurns c = tt
no_foreign_told schema scripts Turns (WentBack named n) c = tt
no_foreign_told schema scripts Turns (Passes named) c = tt
no_foreign_told schema scripts Turns (Receipts fault) c = tt
no_foreign_told schema scripts Turns (Foreign named) c = absurd c
no_foreign_told schema scripts Turns (Lost named) c = tt
no_foreign_told schema scripts Turns NoMemory c = tt

pub no_lost_told : (schema : SchemaValue) (scripts : List (List Command)) (Turns : SiteNo → ℕ → Type 0) (w : WorkFault)
    → IsSiteFault schema Turns w
    → TellsLost schema scripts w
no_lost_told schema scripts Turns GateTurns c = tt
no_lost_told schema scripts Turns (WentBack named n) c = tt
no_lost_told schema scripts Turns (Passes named) c = tt
no_lost_told schema scripts Turns (Receipts fault) c = tt
no_lost_told schema scripts Turns (Foreign named) c = tt
no_lost_told schema scripts Turns (Lost named) c = absurd c
no_lost_told schema scripts Turns NoMemory c = tt

pub differs_shown : (schema : SchemaValue) (Turns : SiteNo → ℕ → Type 0) (w : WorkFault) → IsSiteFault schema Turns w
    → TellsDiffers schema w
differs_shown schema Turns GateTurns c = tt
differs_shown schema Turns (WentBack named n) c = tt
differs_shown schema Turns (Passes named) c = tt
differs_shown schema Turns (Receipts fault) c = c
differs_shown schema Turns (Foreign named) c = tt
differs_shown schema Turns (Lost named) c = tt
differs_shown schema Turns NoMemory c = tt

pub turned_told : (schema : SchemaValue) (Turns : SiteNo → ℕ → Type 0) (w : WorkFault) → IsSiteFault schema Turns w
    → TellsTurned schema Turns w
turned_told schema Turns GateTurns c = c
turned_told schema Turns (WentBack named n) c = tt
turned_told schema Turns (Passes named) c = tt
turned_told schema Turns (Receipts fault) c = tt
turned_told schema Turns (Foreign named) c = tt
turned_told schema Turns (Lost named) c = tt
turned_told schema Turns NoMemory c = tt

pub site_known : (schema : SchemaValue) (Turns : SiteNo → ℕ → Type 0) (w : WorkFault) → IsSiteFault schema Turns w
    → IfSome (site_named w) (λ (site : SiteNo). site.0 < schema.sites)
site_known schema Turns GateTurns c = tt
site_known schema Turns (WentBack named n) c = c
site_known schema Turns (Passes named) c = c
site_known schema Turns (Receipts fault) c = tt
site_known schema Turns (Foreign named) c = absurd c
site_known schema Turns (Lost named) c = absurd c
site_known schema Turns NoMemory c = tt

-- ---- what goes from site to site

within : (hs : List (List Entry)) (s : ℕ) (Shown : List Entry → Type 0) → (Shown [] → ⊥) → Shown (reverse (history_at hs s)) → s < length hs
within hs s Shown none shown =
    ⊎_elim (λ (below : s < length hs). below)
    (λ (past : length hs ≤ s). absurd (none (subst (λ (l : List Entry). Shown (reverse l)) (get_or_past hs s [] past) shown)))
    (cases_lt s (length hs))

told_to : (at : Place) (from : SiteNo) (c : Command) (r : Reply) (told : Statement) → Fits at c r → told_by from c r ≡ Some told
    → told.to.0 < at.schema.sites
told_to at from (Give to field kind amount) (Given total) told fits h =
    let none = (answered at (Give to field kind amount) (Given total) fits refl).0 in
    let made : Statement = record { from = from; to = to; field = field; kind = kind; total = total } in
    subst (λ (x : Statement). x.to.0 < at.schema.sites) (same_Some made told h) (give_is_to_a_site at to field kind amount none)
told_to at from (Restate to field kind) (Stated total) told fits h =
    let none = (answered at (Restate to field kind) (Stated total) fits refl).0 in
    let made : Statement = record { from = from; to = to; field = field; kind = kind; total = total } in
    subst (λ (x : Statement). x.to.0 < at.schema.sites) (same_Some made told h) (restate_is_to_a_site at to field kind none)
told_to at from (Spare to field kind want) (Spared amount total) told fits h =
    let none = (answered at (Spare to field kind want) (Spared amount total) fits refl).0 in
    let made : Statement = record { from = from; to = to; field = field; kind = kind; total = total } in
    subst (λ (x : Statement). x.to.0 < at.schema.sites) (same_Some made told h) (spare_is_to_a_site at to field kind want none)
told_to at from c r told fits h = cc

issued_to : (schema : SchemaValue) (s : ℕ) (base : Base) (h : List Entry) (told : Statement) → IsRun schema s base h → IsIssued told h
    → told.to.0 < schema.sites
issued_to schema s base [] told run issued = absurd issued
issued_to schema s base (e ∷ h) told run (inl now) = told_to (place schema s base h) e.site e.command e.reply told run.1 now
issued_to schema s base (e ∷ h) told run (inr before) = issued_to schema s base h told run.0 before

run_at : (schema : SchemaValue) (n : ℕ) (ss : List (List Command)) (hs : List (List Entry)) → AreWorked schema n ss hs → (i : ℕ)
    → i < length hs
    → IsRun schema (n + i) (fresh schema (n + i)) (reverse (get_or hs i []))
run_at schema n ss [] all i below = absurd (omega arith)
run_at schema n [] (h ∷ hs) all i below = absurd all
run_at schema n (s ∷ ss) (h ∷ hs) all zero below =
    let e : n ≡ n + 0 = omega arith in
    subst (λ (k : ℕ). IsRun schema k (fresh schema k) (reverse h)) e all.0.run
run_at schema n (s ∷ ss) (h ∷ hs) all (suc i) below =
    let e : n + 1 + i ≡ n + suc i = omega arith in
    subst (λ (k : ℕ). IsRun schema k (fresh schema k) (reverse (get_or hs i []))) e (run_at schema (n + 1) ss hs all.1 i (omega arith))

lost_within : (schema : SchemaValue) (ss : List (List Command)) (hs : List (List Entry)) (r : ℕ) → AreWorked schema 0 ss hs → Lacks hs r
    → r < schema.sites
lost_within schema ss hs r worked lacks =
    let below : lacks.giver < length hs = within hs lacks.giver (λ (l : List Entry). IsIssued lacks.told l) (λ none. none) lacks.issued in
    let run = run_at schema 0 ss hs worked lacks.giver below in
    subst (λ (k : ℕ). k < schema.sites) lacks.receiver
    (issued_to schema (0 + lacks.giver) (fresh schema (0 + lacks.giver))
    (reverse (history_at hs lacks.giver)) lacks.told run lacks.issued)

module _ (schema : SchemaValue) (ss : List (List Command)) (vs ws : List (Vec Entry)) (site : SiteNo) (fit : ScriptsFit schema ss)
    (worked : AreWorked schema 0 ss (histories_of vs)) (same : ws ≡ vs) where
  count : length (histories_of vs) ≡ schema.sites
  count = worked_count schema 0 ss (histories_of vs) worked ∙ fit.0

  pub shows_foreign : IsLowestForeign (histories_of ws) site.0 → ShowsForeign schema ss site.0
  shows_foreign lowest = record {
    histories = histories_of vs;
    sites = count;
    worked = worked;
    lowest = subst (λ (l : List (Vec Entry)). IsLowestForeign (histories_of l) site.0) same lowest;
  }

  pub foreign_known : IsLowestForeign (histories_of ws) site.0 → site.0 < schema.sites
  foreign_known lowest =
      let named = (subst (λ (l : List (Vec Entry)). IsLowestForeign (histories_of l) site.0) same lowest).named in
      subst (λ (k : ℕ). site.0 < k) count (within (histories_of vs) site.0 (λ (l : List Entry). HasAccept named.told l)
      (λ none. none) named.accepted)

  pub shows_lost : (vs' : List (Vec Entry)) → vs' ≡ vs → NoneForeign (histories_of vs') → IsLowestLost (histories_of ws) site.0
      → ShowsLost schema ss site.0
  shows_lost vs' alike none lowest = record {
    histories = histories_of vs;
    sites = count;
    worked = worked;
    none_foreign = subst (λ (l : List (Vec Entry)). NoneForeign (histories_of l)) alike none;
    lowest = subst (λ (l : List (Vec Entry)). IsLowestLost (histories_of l) site.0) same lowest;
  }

  pub lost_known : IsLowestLost (histories_of ws) site.0 → site.0 < schema.sites
  lost_known lowest = lost_within schema ss (histories_of vs) site.0 worked
      (subst (λ (l : List (Vec Entry)). IsLowestLost (histories_of l) site.0) same lowest).named
