-- Lawful records spend no more than there is, and own no more than a field is wide.
use Rattle.std.proofs.Common.{◌≡◌, ◌≢◌, ◌⊎◌, ℕ, zero, suc, ◌+◌, ◌-◌, ◌≤◌, ◌<◌, ◌==◌, max, Bool, true, false, not, ◌&&◌, cond, List, [], ◌∷◌, ◌++◌, append_assoc, refl, sym, ◌∙◌, ap, subst, inl, inr, arith, eqb}
use Rattle.std.specs.Prelude.{nat_lt, sum_by, slice_index_or}
use Rattle.std.specs.List.{list_all, AllByRecursion}
use Rattle.std.proofs.lemmas.Bool.{and_parts, cases_eq, eq-eqb, ne_eqb, eqb-true, ltb-true, leb-true}
use Rattle.std.proofs.lemmas.Int.{ints}
use Rattle.std.proofs.lemmas.List.{append-nil}
use Rattle.std.proofs.lemmas.List.Sums.{sum_by-cons}
use Rattle.field_bounds.specs.declared.kind.Kind.{Kind}
use Rattle.field_bounds.specs.declared.kind.Kind.TheVariants.{Lower, Raise}
use Rattle.field_bounds.specs.declared.id.TxnId.{TxnId}
use Rattle.field_bounds.specs.declared.id.SiteNo.{SiteNo}
use Rattle.field_bounds.specs.declared.id.FieldNo.{FieldNo}
use Rattle.field_bounds.specs.declared.entry.Escrow.{Escrow}
use Rattle.field_bounds.specs.Kind.{other, same_kind}
use Rattle.field_bounds.specs.Schema.{FieldValue, SchemaValue}
use Rattle.field_bounds.specs.Limits.{IsField, IsSchema}
use Rattle.field_bounds.specs.Owed.{max_change}
use Rattle.field_bounds.specs.Parts.{no_field, field_at, width_of, total_of, share_of, part_of, sum_below}
use Rattle.field_bounds.specs.Effects.{takes}
use Rattle.field_bounds.proofs.Conserved.{is_ordered}
use Rattle.field_bounds.proofs.Lawful.{same_kind-true}
use Rattle.field_bounds.proofs.Parts.{shares_add_up}
use Rattle.field_bounds.proofs.Sums.{sum_below-same, sum_below-zero, sum_below_bump, term_below}
use Rattle.kept_records.specs.declared.record.Record.{Record}
use Rattle.kept_records.specs.declared.record.Record.TheVariants.{Commit, Gift, Accept, Tighten, Restart, Summary}
use Rattle.kept_records.specs.Summary.{SummaryValue, summary_told, summary_record}
use Rattle.kept_records.specs.Stands.{greatest, given_in, accepted_in, cut_in, gained_in, spent_in, own_in, guarded_in, is_field, may_commit, room_in, may_follow, LawfulBehind, Lawful}
use Rattle.kept_records.proofs.Pushes.{given_none, accepted_none, cut_none, committed_none, given_push, accepted_push, cut_push, committed_push, lawful_push}

-- ---- what a true test says

three_parts : (a b c : Bool) → (a && b && c) ≡ true → (a ≡ true) × (b ≡ true) × (c ≡ true)
three_parts true true true h = (refl, refl, refl)
three_parts false b c h = cc
three_parts true false c h = cc
three_parts true true false h = cc

five_parts : (a b c d e : Bool) → ((a && b) && c && d && e) ≡ true → (a ≡ true) × (b ≡ true) × (c ≡ true) × (d ≡ true) × (e ≡ true)
five_parts true true true true true h = (refl, refl, refl, refl, refl)
five_parts false b c d e h = cc
five_parts true false c d e h = cc
five_parts true true false d e h = cc
five_parts true true true false e h = cc
five_parts true true true true false h = cc

-- a bound that holds at each field of a list holds wherever the list takes something
fields_bound : (p : Escrow → Bool) (total own : ℕ → ℕ) (f : ℕ) (k : Kind) → ((e : Escrow) → p e ≡ true → total e.field.0 ≤ own e.field.0)
    → (es : List Escrow) → list_all p es ≡ true
    → (sum_by (takes f k) es ≡ 0) ⊎ (total f ≤ own f)
fields_bound p total own f k h [] all = inl refl
fields_bound p total own f k h (e ∷ es) all =
    let parts = and_parts (p e) (list_all p es) all in
    elim (cases_eq e.field.0 f) [
      | inl same ↦ inr (subst (λ (n : ℕ). total n ≤ own n) same (h e parts.0))
      | inr apart ↦ elim (fields_bound p total own f k h es parts.1) [
        | inl none ↦ inl (sum_by-cons (takes f k) e es ∙ rw (ne_eqb e.field.0 f apart) (omega (arith, none)))
        | inr bounded ↦ inr bounded
      ]
    ]

-- ---- a total that grows at one key

grow_there : (on : Bool) (site total before : ℕ) → (on ≡ true → before < total)
    → cond (on && eqb site site) (max total before) before ≡ before + cond on (total - before) 0
grow_there true site total before h = rw (eq-eqb site site refl) (omega (arith, h refl))
grow_there false site total before h = omega arith

grow_here : (on : Bool) (site at total before : ℕ) → at ≢ site → cond (on && eqb site at) (max total before) before ≡ before
grow_here true site at total before apart = rw (ne_eqb site at (λ e. apart (sym e))) refl
grow_here false site at total before apart = refl

grown : (on : Bool) (total before : ℕ) → (on ≡ true → before < total)
    → cond on (max total before) before ≡ before + cond on (total - before) 0
grown true total before h = omega (arith, h refl)
grown false total before h = omega arith

pub on_field : (of : ℕ → Kind → ℕ) (field f : ℕ) (kind k : Kind) → (eqb field f && same_kind kind k) ≡ true → of field kind ≡ of f k
on_field of field f kind k h =
    let parts = and_parts (eqb field f) (same_kind kind k) h in
    cc (eqb-true field f parts.0, same_kind-true kind k parts.1)

-- the key that a total stands under
abbrev pub key : ℕ → Kind → ℕ → ℕ → Kind → ℕ → Bool
key field kind site f k to = eqb field f && same_kind kind k && eqb site to

pub at_key : (of : ℕ → ℕ → Kind → ℕ) (field : ℕ) (kind : Kind) (site f : ℕ) (k : Kind) (to : ℕ) → key field kind site f k to ≡ true
    → of site field kind ≡ of to f k
at_key of field kind site f k to h =
    let parts = and_parts (eqb field f && same_kind kind k) (eqb site to) h in
    on_field (of site) field f kind k parts.0 ∙ ap (λ (n : ℕ). of n f k) (eqb-true site to parts.1)

-- what a total has above the one before, where it is added
growth_at : (of : ℕ → Kind → ℕ) (total field f : ℕ) (kind k : Kind)
    → cond (eqb field f && same_kind kind k) (total - of f k) 0 ≡ cond (eqb field f && same_kind kind k) (total - of field kind) 0
growth_at of total field f kind k = by (eqb field f && same_kind kind k) (λ on. on_field of field f kind k on)
  where
    by : (on : Bool) → (on ≡ true → of field kind ≡ of f k) → cond on (total - of f k) 0 ≡ cond on (total - of field kind) 0
    by true same = ap (λ n. total - n) (sym (same refl))
    by false same = refl

pub own_here : (schema : SchemaValue) (s : ℕ) (rs : List Record) (f : ℕ) (k : Kind)
    → own_in schema s rs f k ≡ gained_in schema s rs f k - spent_in schema rs f k
unfolding own_in
own_here schema s rs f k = refl

module _ (schema : SchemaValue) (s : ℕ) (rs : List Record) where
  -- totals that no record changed add up to what they did
  given_still : (r : Record) (f : ℕ) (k : Kind) → ((to : ℕ) → given_in (rs ++ r ∷ []) to f k ≡ given_in rs to f k)
      → sum_below schema.sites (λ to. given_in (rs ++ r ∷ []) to f k) ≡ sum_below schema.sites (λ to. given_in rs to f k)
  given_still r f k same = sum_below-same schema.sites (λ to. given_in (rs ++ r ∷ []) to f k) (λ to. given_in rs to f k)
      (λ to below. same to)

  accepted_still : (r : Record) (f : ℕ) (k : Kind) → ((from : ℕ) → accepted_in (rs ++ r ∷ []) from f k ≡ accepted_in rs from f k)
      → sum_below schema.sites (λ from. accepted_in (rs ++ r ∷ []) from f k) ≡ sum_below schema.sites (λ from. accepted_in rs from f k)
  accepted_still r f k same = sum_below-same schema.sites (λ from. accepted_in (rs ++ r ∷ []) from f k) (λ from. accepted_in rs from f k)
      (λ from below. same from)

  -- ---- what was spent and gained

  pub spent_commit : (txn : TxnId) (es : List Escrow) (f : ℕ) (k : Kind)
      → spent_in schema (rs ++ Commit txn es ∷ []) f k ≡ spent_in schema rs f k + sum_by (takes f k) es
  spent_commit txn es f k = let r : Record = Commit txn es in
      omega (arith, committed_push f k rs r, cut_push f k rs r, given_still r f k (λ to. given_push to f k rs r))

  pub gained_commit : (txn : TxnId) (es : List Escrow) (f : ℕ) (k : Kind)
      → gained_in schema s (rs ++ Commit txn es ∷ []) f k ≡ gained_in schema s rs f k + sum_by (takes f (other k)) es
  gained_commit txn es f k = let r : Record = Commit txn es in
      omega (arith, committed_push f (other k) rs r, accepted_still r f k (λ from. accepted_push from f k rs r))

  pub spent_gift : (to : SiteNo) (field : FieldNo) (kind : Kind) (total f : ℕ) (k : Kind) → to.0 < schema.sites
      → given_in rs to.0 field.0 kind < total
      → spent_in schema (rs ++ Gift to field kind total ∷ []) f k ≡ spent_in schema rs f k
      + cond ((field.0 == f) && same_kind kind k) (total - given_in rs to.0 field.0 kind) 0
  spent_gift to field kind total f k site_in more =
      let r : Record = Gift to field kind total in
      let on = eqb field.0 f && same_kind kind k in
      omega (
        arith,
        committed_push f k rs r,
        cut_push f k rs r,
        growth_at (λ x y. given_in rs to.0 x y) total field.0 f kind k,
        sum_below_bump schema.sites (λ j. given_in rs j f k) (λ j. given_in (rs ++ r ∷ []) j f k) to.0
            (cond on (total - given_in rs to.0 f k) 0) site_in
            (given_push to.0 f k rs r ∙ grow_there on to.0 total (given_in rs to.0 f k)
            (λ is. omega (arith, more, on_field (λ x y. given_in rs to.0 x y) field.0 f kind k is)))
            (λ j apart. given_push j f k rs r ∙ grow_here on to.0 j total (given_in rs j f k) apart),
      )

  pub gained_gift : (to : SiteNo) (field : FieldNo) (kind : Kind) (total f : ℕ) (k : Kind)
      → gained_in schema s (rs ++ Gift to field kind total ∷ []) f k ≡ gained_in schema s rs f k
  gained_gift to field kind total f k =
      let r : Record = Gift to field kind total in
      omega (arith, committed_push f (other k) rs r, accepted_still r f k (λ from. accepted_push from f k rs r))

  pub spent_accept : (from : SiteNo) (field : FieldNo) (kind : Kind) (total f : ℕ) (k : Kind)
      → spent_in schema (rs ++ Accept from field kind total ∷ []) f k ≡ spent_in schema rs f k
  spent_accept from field kind total f k =
      let r : Record = Accept from field kind total in
      omega (arith, committed_push f k rs r, cut_push f k rs r, given_still r f k (λ to. given_push to f k rs r))

  pub gained_accept : (from : SiteNo) (field : FieldNo) (kind : Kind) (total f : ℕ) (k : Kind) → from.0 < schema.sites
      → accepted_in rs from.0 field.0 kind < total
      → gained_in schema s (rs ++ Accept from field kind total ∷ []) f k ≡ gained_in schema s rs f k
      + cond ((field.0 == f) && same_kind kind k) (total - accepted_in rs from.0 field.0 kind) 0
  gained_accept from field kind total f k site_in more =
      let r : Record = Accept from field kind total in
      let on = eqb field.0 f && same_kind kind k in
      omega (
        arith,
        committed_push f (other k) rs r,
        growth_at (λ x y. accepted_in rs from.0 x y) total field.0 f kind k,
        sum_below_bump schema.sites (λ j. accepted_in rs j f k) (λ j. accepted_in (rs ++ r ∷ []) j f k) from.0
            (cond on (total - accepted_in rs from.0 f k) 0) site_in
            (accepted_push from.0 f k rs r ∙ grow_there on from.0 total (accepted_in rs from.0 f k)
            (λ is. omega (arith, more, on_field (λ x y. accepted_in rs from.0 x y) field.0 f kind k is)))
            (λ j apart. accepted_push j f k rs r ∙ grow_here on from.0 j total (accepted_in rs j f k) apart),
      )

  pub spent_tighten : (field : FieldNo) (kind : Kind) (total f : ℕ) (k : Kind) → cut_in rs field.0 kind < total
      → spent_in schema (rs ++ Tighten field kind total ∷ []) f k ≡ spent_in schema rs f k
      + cond ((field.0 == f) && same_kind kind k) (total - cut_in rs field.0 kind) 0
  spent_tighten field kind total f k more =
      let r : Record = Tighten field kind total in
      let on = eqb field.0 f && same_kind kind k in
      omega (
        arith,
        committed_push f k rs r,
        cut_push f k rs r,
        growth_at (λ x y. cut_in rs x y) total field.0 f kind k,
        grown on total (cut_in rs f k) (λ is. omega (arith, more, on_field (λ x y. cut_in rs x y) field.0 f kind k is)),
        given_still r f k (λ to. given_push to f k rs r),
      )

  pub gained_tighten : (field : FieldNo) (kind : Kind) (total f : ℕ) (k : Kind)
      → gained_in schema s (rs ++ Tighten field kind total ∷ []) f k ≡ gained_in schema s rs f k
  gained_tighten field kind total f k =
      let r : Record = Tighten field kind total in
      omega (arith, committed_push f (other k) rs r, accepted_still r f k (λ from. accepted_push from f k rs r))

  pub spent_restart : (epoch f : ℕ) (k : Kind) → spent_in schema (rs ++ Restart epoch ∷ []) f k ≡ spent_in schema rs f k
  spent_restart epoch f k = let r : Record = Restart epoch in
      omega (arith, committed_push f k rs r, cut_push f k rs r, given_still r f k (λ to. given_push to f k rs r))

  pub gained_restart : (epoch f : ℕ) (k : Kind) → gained_in schema s (rs ++ Restart epoch ∷ []) f k ≡ gained_in schema s rs f k
  gained_restart epoch f k = let r : Record = Restart epoch in
      omega (arith, committed_push f (other k) rs r, accepted_still r f k (λ from. accepted_push from f k rs r))

  pub spent_summary : (v : SummaryValue) (f : ℕ) (k : Kind) → spent_in schema (rs ++ summary_record v ∷ []) f k ≡ spent_in schema rs f k
  spent_summary v f k = let r : Record = summary_record v in
      omega (arith, committed_push f k rs r, cut_push f k rs r, given_still r f k (λ to. given_push to f k rs r))

  pub gained_summary : (v : SummaryValue) (f : ℕ) (k : Kind) → gained_in schema s (rs ++ summary_record v ∷ []) f k ≡ gained_in schema s rs f k
  gained_summary v f k = let r : Record = summary_record v in
      omega (arith, committed_push f (other k) rs r, accepted_still r f k (λ from. accepted_push from f k rs r))

  -- ---- what a commit spends

  -- where each escrow of a commit may stand, no field and kind is overspent
  pub commit_within : (es : List Escrow) → list_all (may_commit schema s rs es) es ≡ true → (f : ℕ) (k : Kind)
      → sum_by (takes f k) es ≤ own_in schema s rs f k
  commit_within es all f Lower =
      elim (fields_bound (may_commit schema s rs es) (λ n. sum_by (takes n Lower) es) (λ n. own_in schema s rs n Lower) f Lower
      (λ e may. leb-true _ _ (three_parts (is_field schema e.field.0) _ _ may).1) es all) [
        | inl none ↦ omega (arith, none)
        | inr bounded ↦ bounded
      ]
  commit_within es all f Raise =
      elim (fields_bound (may_commit schema s rs es) (λ n. sum_by (takes n Raise) es) (λ n. own_in schema s rs n Raise) f Raise
      (λ e may. leb-true _ _ (three_parts (is_field schema e.field.0) _ _ may).2) es all) [
        | inl none ↦ omega (arith, none)
        | inr bounded ↦ bounded
      ]

  -- ---- what gifts, acceptances and tightenings may be

  pub gift_parts : (to : SiteNo) (field : FieldNo) (kind : Kind) (total : ℕ) → may_follow schema s rs (Gift to field kind total) ≡ true
      → (to.0 < schema.sites) × (given_in rs to.0 field.0 kind < total)
      × (total - given_in rs to.0 field.0 kind ≤ own_in schema s rs field.0 kind)
  gift_parts to field kind total may =
      let parts = five_parts (nat_lt to.0 schema.sites) (not (eqb to.0 s)) (is_field schema field.0) _ _ may in
      (ltb-true _ _ parts.0, ltb-true _ _ parts.3, leb-true _ _ parts.4)

  pub accept_parts : (from : SiteNo) (field : FieldNo) (kind : Kind) (total : ℕ)
      → may_follow schema s rs (Accept from field kind total) ≡ true
      → (from.0 < schema.sites) × (accepted_in rs from.0 field.0 kind < total)
      × (total - accepted_in rs from.0 field.0 kind ≤ room_in schema s rs field.0)
  accept_parts from field kind total may =
      let parts = five_parts (nat_lt from.0 schema.sites) (not (eqb from.0 s)) (is_field schema field.0) _ _ may in
      (ltb-true _ _ parts.0, ltb-true _ _ parts.3, leb-true _ _ parts.4)

  pub tighten_parts : (field : FieldNo) (kind : Kind) (total : ℕ) → may_follow schema s rs (Tighten field kind total) ≡ true
      → (cut_in rs field.0 kind < total) × (total - cut_in rs field.0 kind ≤ own_in schema s rs field.0 kind)
  tighten_parts field kind total may =
      let parts = three_parts (is_field schema field.0) _ _ may in
      (ltb-true _ _ parts.1, leb-true _ _ parts.2)

-- ---- lawful records spend no more than there is

abbrev pub IsCovered : SchemaValue → ℕ → List Record → Type 0
IsCovered schema s rs = (f : ℕ) (k : Kind) → spent_in schema rs f k ≤ gained_in schema s rs f k

spent_within : (on : Bool) (amount own out in_ : ℕ) → (on ≡ true → amount ≤ own) → (on ≡ true → own ≡ in_ - out) → out ≤ in_
    → out + cond on amount 0 ≤ in_
spent_within true amount own out in_ h is before_ = omega (arith, h refl, is refl, before_)
spent_within false amount own out in_ h is before_ = omega (arith, before_)

module _ (schema : SchemaValue) (s : ℕ) (rs : List Record) (before : IsCovered schema s rs) where
  covered_push : (r : Record) → may_follow schema s rs r ≡ true → IsCovered schema s (rs ++ r ∷ [])
  covered_push (Commit txn es) may f k =
      omega (
        arith,
        before f k,
        own_here schema s rs f k,
        commit_within schema s rs es (and_parts (eqb txn.epoch (greatest rs)) (list_all (may_commit schema s rs es) es) may).1 f k,
        spent_commit schema s rs txn es f k,
        gained_commit schema s rs txn es f k,
      )
  covered_push (Gift to field kind total) may f k =
      let parts = gift_parts schema s rs to field kind total may in
      omega (
        arith,
        spent_within (eqb field.0 f && same_kind kind k) (total - given_in rs to.0 field.0 kind) (own_in schema s rs f k)
            (spent_in schema rs f k) (gained_in schema s rs f k)
            (λ is. omega (arith, parts.2, on_field (λ x y. own_in schema s rs x y) field.0 f kind k is)) (λ is. own_here schema s rs f k)
            (before f k),
        spent_gift schema s rs to field kind total f k parts.0 parts.1,
        gained_gift schema s rs to field kind total f k,
      )
  covered_push (Accept from field kind total) may f k =
      let parts = accept_parts schema s rs from field kind total may in
      omega (
        arith,
        before f k,
        spent_accept schema s rs from field kind total f k,
        gained_accept schema s rs from field kind total f k parts.0 parts.1,
      )
  covered_push (Tighten field kind total) may f k =
      let parts = tighten_parts schema s rs field kind total may in
      omega (
        arith,
        spent_within (eqb field.0 f && same_kind kind k) (total - cut_in rs field.0 kind) (own_in schema s rs f k) (spent_in schema rs f k)
            (gained_in schema s rs f k)
            (λ is. omega (arith, parts.1, on_field (λ x y. own_in schema s rs x y) field.0 f kind k is)) (λ is. own_here schema s rs f k)
            (before f k),
        spent_tighten schema s rs field kind total f k parts.0,
        gained_tighten schema s rs field kind total f k,
      )
  covered_push (Restart epoch) may f k = omega (
    arith,
    before f k,
    spent_restart schema s rs epoch f k,
    gained_restart schema s rs epoch f k,
  )
  covered_push (Summary epoch rights gifts accepts tightenings) may f k =
      let v = summary_told epoch rights gifts accepts tightenings in omega (arith, before f k, spent_summary schema s rs v f k, gained_summary schema s rs v f k)

covered_behind : (schema : SchemaValue) (s : ℕ) (front rs : List Record) → IsCovered schema s front → LawfulBehind schema s front rs
    → IsCovered schema s (front ++ rs)
covered_behind schema s front [] before lawful = subst (λ (all : List Record). IsCovered schema s all) (sym (append-nil front)) before
covered_behind schema s front (r ∷ rs) before lawful =
    subst (λ (all : List Record). IsCovered schema s all) (append_assoc front (r ∷ []) rs)
    (covered_behind schema s (front ++ r ∷ []) rs (covered_push schema s front before r lawful.0) lawful.1)

pub spent_none : (schema : SchemaValue) (f : ℕ) (k : Kind) → spent_in schema [] f k ≡ 0
spent_none schema f k =
    omega (
      arith,
      committed_none f k,
      cut_none f k,
      sum_below-same schema.sites (λ to. given_in [] to f k) (λ to. 0) (λ to below. given_none to f k),
      sum_below-zero schema.sites,
    )

pub gained_none : (schema : SchemaValue) (s f : ℕ) (k : Kind) → gained_in schema s [] f k ≡ part_of schema s f k
gained_none schema s f k =
    omega (
      arith,
      committed_none f (other k),
      sum_below-same schema.sites (λ from. accepted_in [] from f k) (λ from. 0)
          (λ from below. accepted_none from f k),
      sum_below-zero schema.sites,
    )

pub lawful_covered : (schema : SchemaValue) (s : ℕ) (rs : List Record) → Lawful schema s rs → IsCovered schema s rs
lawful_covered schema s rs lawful = covered_behind schema s [] rs (λ f k. omega (arith, spent_none schema f k)) lawful

-- ---- the own rights

pub own_none : (schema : SchemaValue) (s f : ℕ) (k : Kind) → own_in schema s [] f k ≡ part_of schema s f k
own_none schema s f k = omega (arith, own_here schema s [] f k, spent_none schema f k, gained_none schema s f k)

module _ (schema : SchemaValue) (s : ℕ) (rs : List Record) (lawful : Lawful schema s rs) where
  -- no subtraction is cut off
  pub own_whole : (f : ℕ) (k : Kind) → own_in schema s rs f k + spent_in schema rs f k ≡ gained_in schema s rs f k
  own_whole f k = omega (arith, own_here schema s rs f k, lawful_covered schema s rs lawful f k)

  pushed : (r : Record) → may_follow schema s rs r ≡ true → (f : ℕ) (k : Kind)
      → own_in schema s (rs ++ r ∷ []) f k + spent_in schema (rs ++ r ∷ []) f k ≡ gained_in schema s (rs ++ r ∷ []) f k
  pushed r may f k = omega (
    arith,
    own_here schema s (rs ++ r ∷ []) f k,
    covered_push schema s rs (lawful_covered schema s rs lawful) r may f k,
  )

  -- a commit takes what it spends and adds what it spends of the other kind
  pub own_commit : (txn : TxnId) (es : List Escrow) → may_follow schema s rs (Commit txn es) ≡ true → (f : ℕ) (k : Kind)
      → own_in schema s (rs ++ Commit txn es ∷ []) f k + sum_by (takes f k) es ≡ own_in schema s rs f k + sum_by (takes f (other k)) es
  own_commit txn es may f k = omega (
    arith,
    own_whole f k,
    pushed (Commit txn es) may f k,
    spent_commit schema s rs txn es f k,
    gained_commit schema s rs txn es f k,
  )

  -- a gift takes what its total has above the one before, of its kind on its field
  pub own_gift : (to : SiteNo) (field : FieldNo) (kind : Kind) (total : ℕ) → may_follow schema s rs (Gift to field kind total) ≡ true
      → (f : ℕ) (k : Kind)
      → own_in schema s (rs ++ Gift to field kind total ∷ []) f k
      + cond ((field.0 == f) && same_kind kind k) (total - given_in rs to.0 field.0 kind) 0 ≡ own_in schema s rs f k
  own_gift to field kind total may f k =
      let parts = gift_parts schema s rs to field kind total may in
      omega (
        arith,
        own_whole f k,
        pushed (Gift to field kind total) may f k,
        spent_gift schema s rs to field kind total f k parts.0 parts.1,
        gained_gift schema s rs to field kind total f k,
      )

  -- an acceptance adds it
  pub own_accept : (from : SiteNo) (field : FieldNo) (kind : Kind) (total : ℕ)
      → may_follow schema s rs (Accept from field kind total) ≡ true → (f : ℕ) (k : Kind)
      → own_in schema s (rs ++ Accept from field kind total ∷ []) f k ≡ own_in schema s rs f k
      + cond ((field.0 == f) && same_kind kind k) (total - accepted_in rs from.0 field.0 kind) 0
  own_accept from field kind total may f k =
      let parts = accept_parts schema s rs from field kind total may in
      omega (
        arith,
        own_whole f k,
        pushed (Accept from field kind total) may f k,
        spent_accept schema s rs from field kind total f k,
        gained_accept schema s rs from field kind total f k parts.0 parts.1,
      )

  -- a tightening takes what its total has above the one before, and adds it to what was given up
  pub own_tighten : (field : FieldNo) (kind : Kind) (total : ℕ) → may_follow schema s rs (Tighten field kind total) ≡ true
      → (f : ℕ) (k : Kind)
      → own_in schema s (rs ++ Tighten field kind total ∷ []) f k
      + cond ((field.0 == f) && same_kind kind k) (total - cut_in rs field.0 kind) 0 ≡ own_in schema s rs f k
  own_tighten field kind total may f k =
      let parts = tighten_parts schema s rs field kind total may in
      omega (
        arith,
        own_whole f k,
        pushed (Tighten field kind total) may f k,
        spent_tighten schema s rs field kind total f k parts.0,
        gained_tighten schema s rs field kind total f k,
      )

  pub cut_tighten : (field : FieldNo) (kind : Kind) (total : ℕ) → may_follow schema s rs (Tighten field kind total) ≡ true
      → (f : ℕ) (k : Kind)
      → cut_in (rs ++ Tighten field kind total ∷ []) f k ≡ cut_in rs f k
      + cond ((field.0 == f) && same_kind kind k) (total - cut_in rs field.0 kind) 0
  cut_tighten field kind total may f k =
      let parts = tighten_parts schema s rs field kind total may in
      let on = eqb field.0 f && same_kind kind k in
      omega (
        arith,
        cut_push f k rs (Tighten field kind total),
        growth_at (λ x y. cut_in rs x y) total field.0 f kind k,
        grown on total (cut_in rs f k) (λ is. omega (arith, parts.0, on_field (λ x y. cut_in rs x y) field.0 f kind k is)),
      )

  -- a restart changes none
  pub own_restart : (epoch : ℕ) → may_follow schema s rs (Restart epoch) ≡ true → (f : ℕ) (k : Kind)
      → own_in schema s (rs ++ Restart epoch ∷ []) f k ≡ own_in schema s rs f k
  own_restart epoch may f k = omega (
    arith,
    own_whole f k,
    pushed (Restart epoch) may f k,
    spent_restart schema s rs epoch f k,
    gained_restart schema s rs epoch f k,
  )

  -- and a summary changes none
  pub own_summary : (v : SummaryValue) → may_follow schema s rs (summary_record v) ≡ true → (f : ℕ) (k : Kind)
      → own_in schema s (rs ++ summary_record v ∷ []) f k ≡ own_in schema s rs f k
  own_summary v may f k = omega (
    arith,
    own_whole f k,
    pushed (summary_record v) may f k,
    spent_summary schema s rs v f k,
    gained_summary schema s rs v f k,
  )

-- ---- what is guarded of both kinds is within the width

parts_within : (schema : SchemaValue) → IsSchema schema → (s f : ℕ) → s < schema.sites
    → part_of schema s f Lower + part_of schema s f Raise ≤ width_of (field_at schema f)
parts_within schema good s f below =
    let order = is_ordered schema good f in
    let low = total_of (field_at schema f) Lower in
    let high = total_of (field_at schema f) Raise in
    omega (
      arith,
      ints,
      order.floor,
      order.ceiling,
      term_below schema.sites (share_of low schema.sites) s below,
      term_below schema.sites (share_of high schema.sites) s below,
      shares_add_up low schema.sites good.some_site,
      shares_add_up high schema.sites good.some_site,
    )

-- of each field, what is guarded of both kinds is no more than its width
abbrev pub IsWithin : SchemaValue → ℕ → List Record → Type 0
IsWithin schema s rs = (f : ℕ) → guarded_in schema s rs f Lower + guarded_in schema s rs f Raise ≤ width_of (field_at schema f)

gain_within : (on : Bool) (kind : Kind) (gain l r l' r' cut_l cut_r width : ℕ) → l' ≡ l + cond (on && same_kind kind Lower) gain 0
    → r' ≡ r + cond (on && same_kind kind Raise) gain 0
    → (cut_l + l) + (cut_r + r) ≤ width → (on ≡ true → gain ≤ width - ((cut_l + l) + (cut_r + r))) → (cut_l + l') + (cut_r + r') ≤ width
gain_within true Lower gain l r l' r' cut_l cut_r width a b le room = omega (arith, a, b, le, room refl)
gain_within true Raise gain l r l' r' cut_l cut_r width a b le room = omega (arith, a, b, le, room refl)
gain_within false kind gain l r l' r' cut_l cut_r width a b le room = omega (arith, a, b, le)

within_push : (schema : SchemaValue) (s : ℕ) (rs : List Record) → Lawful schema s rs → IsWithin schema s rs → (r : Record)
    → may_follow schema s rs r ≡ true → IsWithin schema s (rs ++ r ∷ [])
within_push schema s rs lawful before (Commit txn es) may f =
    let r : Record = Commit txn es in
    omega (
      arith,
      before f,
      own_commit schema s rs lawful txn es may f Lower,
      own_commit schema s rs lawful txn es may f Raise,
      cut_push f Lower rs r,
      cut_push f Raise rs r,
    )
within_push schema s rs lawful before (Gift to field kind total) may f =
    let r : Record = Gift to field kind total in
    omega (
      arith,
      before f,
      own_gift schema s rs lawful to field kind total may f Lower,
      own_gift schema s rs lawful to field kind total may f Raise,
      cut_push f Lower rs r,
      cut_push f Raise rs r,
    )
within_push schema s rs lawful before (Accept from field kind total) may f =
    let r : Record = Accept from field kind total in
    let parts = accept_parts schema s rs from field kind total may in
    let gain = total - accepted_in rs from.0 field.0 kind in
    let whole = gain_within (field.0 == f) kind gain (own_in schema s rs f Lower) (own_in schema s rs f Raise)
    (own_in schema s (rs ++ r ∷ []) f Lower) (own_in schema s (rs ++ r ∷ []) f Raise)
    (cut_in rs f Lower) (cut_in rs f Raise) (width_of (field_at schema f))
    (own_accept schema s rs lawful from field kind total may f Lower)
    (own_accept schema s rs lawful from field kind total may f Raise)
    (before f)
    (λ on. let same = eqb-true field.0 f on in subst (λ (x : ℕ). gain ≤ room_in schema s rs x) same parts.2) in
    omega (arith, whole, cut_push f Lower rs r, cut_push f Raise rs r)
within_push schema s rs lawful before (Tighten field kind total) may f =
    omega (
      arith,
      before f,
      own_tighten schema s rs lawful field kind total may f Lower,
      own_tighten schema s rs lawful field kind total may f Raise,
      cut_tighten schema s rs lawful field kind total may f Lower,
      cut_tighten schema s rs lawful field kind total may f Raise,
    )
within_push schema s rs lawful before (Restart epoch) may f =
    let r : Record = Restart epoch in
    omega (
      arith,
      before f,
      own_restart schema s rs lawful epoch may f Lower,
      own_restart schema s rs lawful epoch may f Raise,
      cut_push f Lower rs r,
      cut_push f Raise rs r,
    )
within_push schema s rs lawful before (Summary epoch rights gifts accepts tightenings) may f =
    let v = summary_told epoch rights gifts accepts tightenings in
    let r : Record = summary_record v in
    omega (
      arith,
      before f,
      own_summary schema s rs lawful v may f Lower,
      own_summary schema s rs lawful v may f Raise,
      cut_push f Lower rs r,
      cut_push f Raise rs r,
    )

within_behind : (schema : SchemaValue) (s : ℕ) (front rs : List Record) → Lawful schema s front → IsWithin schema s front
    → LawfulBehind schema s front rs → IsWithin schema s (front ++ rs)
within_behind schema s front [] lawful before more = subst (λ (all : List Record). IsWithin schema s all) (sym (append-nil front)) before
within_behind schema s front (r ∷ rs) lawful before more =
    subst (λ (all : List Record). IsWithin schema s all) (append_assoc front (r ∷ []) rs)
    (within_behind schema s (front ++ r ∷ []) rs (lawful_push schema s front r lawful more.0)
    (within_push schema s front lawful before r more.0) more.1)

pub own_within : (schema : SchemaValue) → IsSchema schema → (s : ℕ) → s < schema.sites → (rs : List Record) → Lawful schema s rs
    → IsWithin schema s rs
own_within schema good s below rs lawful =
    within_behind schema s [] rs tt (λ f. omega (
      arith,
      parts_within schema good s f below,
      own_none schema s f Lower,
      own_none schema s f Raise,
      cut_none f Lower,
      cut_none f Raise,
    )) lawful

same_kind-refl : (k : Kind) → same_kind k k ≡ true
same_kind-refl Lower = refl
same_kind-refl Raise = refl

pub width_few : (fs : List FieldValue) → AllByRecursion IsField fs → (f : ℕ) → width_of (slice_index_or fs f no_field) ≤ max_change
width_few [] each f = omega (arith, ints)
width_few (x ∷ fs) each zero = omega (arith, ints, each.0.least, each.0.floor, each.0.ceiling, each.0.most)
width_few (x ∷ fs) each (suc f) = width_few fs each.1 f

pub cut_few : (schema : SchemaValue) → IsSchema schema → (s : ℕ) → s < schema.sites → (rs : List Record) → Lawful schema s rs
    → (f : ℕ) (k : Kind) → cut_in rs f k ≤ max_change
cut_few schema good s below rs lawful f Lower = omega (
  arith,
  own_within schema good s below rs lawful f,
  width_few schema.fields good.each f,
)
cut_few schema good s below rs lawful f Raise = omega (
  arith,
  own_within schema good s below rs lawful f,
  width_few schema.fields good.each f,
)

-- so the total of a tightening that may stand is within the range of its record
pub tighten_few : (schema : SchemaValue) → IsSchema schema → (s : ℕ) → s < schema.sites → (rs : List Record) → Lawful schema s rs
    → (field : FieldNo) (kind : Kind) (total : ℕ)
    → may_follow schema s rs (Tighten field kind total) ≡ true → total ≤ max_change
tighten_few schema good s below rs lawful field kind total may =
    let r : Record = Tighten field kind total in
    let on : (eqb field.0 field.0 && same_kind kind kind) ≡ true = rw (eq-eqb field.0 field.0 refl, same_kind-refl kind) refl in
    let more : cut_in (rs ++ r ∷ []) field.0 kind ≡ cut_in rs field.0 kind + (total - cut_in rs field.0 kind) =
    cut_tighten schema s rs lawful field kind total may field.0 kind
    ∙ ap (λ (b : Bool). cut_in rs field.0 kind + cond b (total - cut_in rs field.0 kind) 0) on in
    omega (
      arith,
      more,
      (tighten_parts schema s rs field kind total may).0,
      cut_few schema good s below (rs ++ r ∷ []) (lawful_push schema s rs r lawful may) field.0 kind,
    )
