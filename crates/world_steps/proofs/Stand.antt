-- One more entry at one site: where it stands, and that the others stand as before.
use Rattle.std.proofs.Common.{◌≡◌, ℕ, suc, ◌+◌, ◌<◌, ◌≤◌, Bool, true, false, List, [], ◌∷◌, ◌++◌, length, get_or, slice_set, refl, sym, ap, subst, ◌∙◌, arith, leb, Some, inl, inr, if◌then◌else◌}
use Rattle.std.proofs.lemmas.Bool.{cases_eq, eq-eqb, ne_eqb}
use Rattle.std.proofs.lemmas.List.{length-set, length-append, get_or-set_same, get_or-set_other, get_or_push, get_or_append_left}
use Rattle.field_bounds.specs.declared.id.SiteNo.{SiteNo}
use Rattle.field_bounds.specs.declared.entry.Command.{Command}
use Rattle.field_bounds.specs.declared.entry.Reply.{Reply}
use Rattle.field_bounds.specs.declared.entry.Reply.TheVariants.{Restarted, StillDown}
use Rattle.field_bounds.specs.declared.entry.Last.{Last}
use Rattle.field_bounds.specs.declared.entry.Entry.{Entry}
use Rattle.field_bounds.specs.Schema.{SchemaValue}
use Rattle.field_bounds.specs.Effects.{Base, fresh}
use Rattle.field_bounds.specs.Owed.{Place, place, epoch_of, epoch_after}
use Rattle.field_bounds.specs.Central.{own}
use Rattle.kept_records.specs.declared.medium.Mishap.TheVariants.{Never}
use Rattle.kept_state.specs.declared.luck.Luck.{Luck}
use Rattle.kept_state.specs.declared.luck.Luck.TheVariants.{Fine, Torn}
use Rattle.kept_state.specs.Keeps.{base_of_records}
use Rattle.kept_state.specs.Luck.{Lucky, entries, own_lucky, covered_after, covered_restarts, doubt, doubt_after, record_length, restart_length, owed_with, epoch_kept, lucky_reply}
use Rattle.kept_state.proofs.Lucky.{own_entries}
use Rattle.site_step.specs.Site.{SiteValue, here, Finds}
use Rattle.world_steps.specs.Standing.{Once, Follows, AllFollow, AreCalm}

same_site : (a b : SiteNo) → a.0 ≡ b.0 → a ≡ b
same_site a b h = let made : ℕ → SiteNo = λ n. record { 0 = n } in ap made h

pub here_is : (schema : SchemaValue) (s : ℕ) (ys : List Lucky) (bound : ℕ) (v : SiteValue) → Follows schema s ys bound v
    → here v ≡ place schema s (fresh schema s) (entries ys)
here_is schema s ys bound v st =
    ap (λ (x : SchemaValue). place x v.site.0 (base_of_records x v.site.0 v.fresh v.based) v.history) st.schema_is
    ∙ ap (λ (n : ℕ). place schema n (base_of_records schema n v.fresh v.based) v.history) st.site_is
    ∙ ap (λ (b : Bool). place schema s (base_of_records schema s b v.based) v.history) st.fresh_is
    ∙ ap (λ (o : List Entry). place schema s (fresh schema s) o) st.history_is

covered_more : (b : Bool) (epoch covered : ℕ) → (if b then (epoch + covered) + 1 else (epoch + covered)) ≡ epoch
    + (if b then suc covered else covered)
covered_more true epoch covered = omega arith
covered_more false epoch covered = refl

kept_is_covered : (reply : Reply) (luck : Luck) (epoch covered : ℕ)
    → epoch_kept reply luck (epoch + covered) ≡ epoch_after epoch reply
    + covered_after reply luck (restart_length (epoch + covered + 1)) covered
kept_is_covered (Restarted new found) luck epoch covered = omega arith
kept_is_covered StillDown (Torn bytes) epoch covered = covered_more (leb (restart_length (epoch + covered + 1)) bytes) epoch covered
kept_is_covered StillDown Fine epoch covered = refl
kept_is_covered reply luck epoch covered = refl

-- one command at a site that stands where its past leaves it
abbrev pub Exactly : SchemaValue → ℕ → List Lucky → SiteValue → Command → Luck → Reply → SiteValue → Type 0
Exactly schema s ys v command luck reply later =
    Once v (epoch_of (fresh schema s) (entries ys) + covered_restarts (fresh schema s) ys)
    (doubt schema s (fresh schema s) ys) command luck reply later

reply_is_lucky : (schema : SchemaValue) (s : ℕ) (ys : List Lucky) (bound : ℕ) (v : SiteValue) (command : Command) (luck : Luck)
    (reply : Reply) (later : SiteValue)
    → Follows schema s ys bound v → Exactly schema s ys v command luck reply later
    → reply ≡ lucky_reply schema s (fresh schema s) ys command luck
reply_is_lucky schema s ys bound v command luck reply later st once =
    let base : Base = fresh schema s in
    once.reply_is
    ∙ ap (λ (at : Place). owed_with at (epoch_of base (entries ys) + covered_restarts base ys) (doubt schema s base ys) command luck)
    (here_is schema s ys bound v st)

stands_next : (schema : SchemaValue) (site : SiteNo) (ys : List Lucky) (bound : ℕ) (v : SiteValue) (command : Command) (luck : Luck)
    (reply : Reply) (later : SiteValue)
    → Follows schema site.0 ys bound v → Exactly schema site.0 ys v command luck reply later
    → Follows schema site.0 ((record { site = site; command = command; reply = reply }, luck) ∷ ys) (bound + 1) later
stands_next schema site ys bound v command luck reply later st once =
    let base : Base = fresh schema site.0 in
    let is : v.site ≡ site = same_site v.site site st.site_is in
    let e : Entry = record { site = site; command = command; reply = reply } in
    let history : later.history ≡ e ∷ entries ys =
    once.history_is
    ∙ ap (λ (n : SiteNo). (let x : Entry = record { site = n; command = command; reply = reply } in x) ∷ v.history) is
    ∙ ap (λ (o : List Entry). e ∷ o) st.history_is in
    let kept = kept_is_covered reply luck (epoch_of base (entries ys)) (covered_restarts base ys) in
    let at = here_is schema site.0 ys bound v st in
    let finds = subst (λ (p : Place). Finds later (epoch_kept reply luck (epoch_of base (entries ys) + covered_restarts base ys))
    (doubt_after reply luck (record_length p command) (doubt schema site.0 base ys))) at once.finds in
    record {
      schema_is = once.schema_is ∙ st.schema_is;
      site_is = ap (λ (n : SiteNo). n.0) once.site_is ∙ st.site_is;
      fresh_is = once.fresh_is ∙ st.fresh_is;
      history_is = history;
      failed_is = omega (arith, once.failed_is, st.failed_is);
      foretold_is = once.foretold_is;
      finds = subst (λ (n : ℕ). Finds later n (doubt_after reply luck (record_length (place schema site.0 base (entries ys)) command)
          (doubt schema site.0 base ys))) kept finds;
    }

-- a bound may grow
stands_longer : (schema : SchemaValue) (s : ℕ) (ys : List Lucky) (bound more : ℕ) (v : SiteValue) → bound ≤ more
    → Follows schema s ys bound v → Follows schema s ys more v
stands_longer schema s ys bound more v h st =
    record {
      schema_is = st.schema_is;
      site_is = st.site_is;
      fresh_is = st.fresh_is;
      history_is = st.history_is;
      failed_is = omega (arith, h, st.failed_is);
      foretold_is = st.foretold_is;
      finds = st.finds;
    }

all_next : (schema : SchemaValue) (past : List Lucky) (bound : ℕ) (sites : List SiteValue) (x : Lucky) (later : SiteValue)
    → x.0.site.0 < length sites → AllFollow schema past bound sites
    → Follows schema x.0.site.0 (x ∷ own_lucky x.0.site.0 past) (bound + 1) later
    → AllFollow schema (x ∷ past) (bound + 1) (slice_set sites x.0.site.0 later)
unfolding AllFollow
all_next schema past bound sites x later known all st = λ s d below.
    let i : ℕ = x.0.site.0 in
    let within : s < length sites = omega (arith, below, length-set sites i later) in
    elim (cases_eq i s) [
      | inl same ↦
          subst (λ (n : ℕ). Follows schema n (own_lucky n (x ∷ past)) (bound + 1) (get_or (slice_set sites i later) n d)) same
          (subst (λ (v : SiteValue). Follows schema i (own_lucky i (x ∷ past)) (bound + 1) v) (sym (get_or-set_same sites i later d known))
          (subst (λ (b : Bool). Follows schema i (if b then x ∷ own_lucky i past else own_lucky i past) (bound + 1) later)
          (sym (eq-eqb i i refl)) st))
      | inr other ↦
          subst (λ (v : SiteValue). Follows schema s (own_lucky s (x ∷ past)) (bound + 1) v)
          (sym (get_or-set_other sites i s later d (λ e. other (sym e))))
          (subst (λ (b : Bool). Follows schema s (if b then x ∷ own_lucky s past else own_lucky s past) (bound + 1) (get_or sites s d))
          (sym (ne_eqb i s other))
          (stands_longer schema s (own_lucky s past) bound (bound + 1) (get_or sites s d) (omega arith) (all s d within)))
    ]

-- one command at one of the sites
pub all_after : (schema : SchemaValue) (past : List Lucky) (bound : ℕ) (sites : List SiteValue) (site : SiteNo) (command : Command)
    (luck : Luck) (reply : Reply) (i : ℕ) (d later : SiteValue)
    → i ≡ site.0 → site.0 < length sites → AllFollow schema past bound sites
    → ((epoch : ℕ) (found : Last) → Finds (get_or sites i d) epoch found → Once (get_or sites i d) epoch found command luck reply later)
    → (reply ≡ lucky_reply schema site.0 (fresh schema site.0) (own_lucky site.0 past) command luck)
    × AllFollow schema ((record { site = site; command = command; reply = reply }, luck) ∷ past) (bound + 1) (slice_set sites i later)
unfolding AllFollow
all_after schema past bound sites site command luck reply i d later same known all once =
    let ys : List Lucky = own_lucky site.0 past in
    let v : SiteValue = get_or sites i d in
    let st : Follows schema site.0 ys bound v = subst (λ (n : ℕ). Follows schema site.0 ys bound (get_or sites n d)) (sym same)
    (all site.0 d known) in
    let did = once _ _ st.finds in
    let e : Entry = record { site = site; command = command; reply = reply } in (
      reply_is_lucky schema site.0 ys bound v command luck reply later st did,
      subst (λ (n : ℕ). AllFollow schema ((e, luck) ∷ past) (bound + 1) (slice_set sites n later)) (sym same)
          (all_next schema past bound sites (e, luck) later known all (stands_next schema site ys bound v command luck reply later st did)),
    )

-- ---- no mishap is to come

pub calm_at : (bound : ℕ) (sites : List SiteValue) (s i : ℕ) (d : SiteValue) → i ≡ s → s < length sites → AreCalm bound sites
    → ((get_or sites i d).foretold ≡ Some Never) × ((get_or sites i d).failed < bound)
unfolding AreCalm
calm_at bound sites s i d same known calm = calm i d (omega (arith, same, known))

pub all_calm : (schema : SchemaValue) (past : List Lucky) (bound most : ℕ) (sites : List SiteValue) → bound < most
    → AllFollow schema past bound sites → AreCalm most sites
unfolding AreCalm AllFollow
all_calm schema past bound most sites h all = λ s d below. let st = all s d below in (st.foretold_is, omega (arith, h, st.failed_is))

-- ---- sites over empty media

-- one more of them
pub all_fresh : (schema : SchemaValue) (sites : List SiteValue) (number : ℕ) (v : SiteValue) → number ≡ length sites
    → AllFollow schema [] 0 sites → Follows schema number [] 0 v
    → AllFollow schema [] 0 (sites ++ v ∷ [])
unfolding AllFollow
all_fresh schema sites number v is all st = λ s d below.
    elim (cases_eq s (length sites)) [
      | inl at_end ↦
          let same : number ≡ s = is ∙ sym at_end in
          let got : get_or (sites ++ v ∷ []) s d ≡ v =
          ap (λ (n : ℕ). get_or (sites ++ v ∷ []) n d) at_end ∙ get_or_push sites v d (length sites) refl in
          subst (λ (w : SiteValue). Follows schema s [] 0 w) (sym got) (subst (λ (n : ℕ). Follows schema n [] 0 v) same st)
      | inr other ↦
          let less : s < length sites = omega (arith, below, other, length-append sites (v ∷ [])) in
          subst (λ (w : SiteValue). Follows schema s [] 0 w) (sym (get_or_append_left sites (v ∷ []) d s less)) (all s d less)
    ]

pub all_none : (schema : SchemaValue) → AllFollow schema [] 0 []
unfolding AllFollow
all_none schema = λ s d below. absurd (omega (arith, below))

-- ---- what a site stands on is its own part of the trace

pub here_at : (schema : SchemaValue) (past : List Lucky) (bound : ℕ) (sites : List SiteValue) (s : ℕ) (v : SiteValue) → s < length sites
    → v ≡ get_or sites s v → AllFollow schema past bound sites
    → here v ≡ place schema s (fresh schema s) (own s (entries past))
unfolding AllFollow
here_at schema past bound sites s v known is all =
    let st : Follows schema s (own_lucky s past) bound v =
    subst (λ (w : SiteValue). Follows schema s (own_lucky s past) bound w) (sym is) (all s v known) in
    here_is schema s (own_lucky s past) bound v st ∙ ap (λ (o : List Entry). place schema s (fresh schema s) o) (own_entries s past)
