-- The canonical summary of numbers that agree where a schema has fields and other sites.
use Rattle.std.proofs.Common.{◌≡◌, ◌≢◌, ℕ, ◌≤◌, ◌<◌, ◌==◌, Bool, true, false, ◌&&◌, cond, List, [], ◌∷◌, length, refl, sym, ap, subst, arith}
use Rattle.std.specs.Prelude.{fold}
use Rattle.std.specs.List.{AllByRecursion}
use Rattle.std.proofs.lemmas.Bool.{and_parts, ne_eqb, lt-ltb, eqb-true}
use Rattle.field_bounds.specs.declared.kind.Kind.{Kind}
use Rattle.field_bounds.specs.Kind.{same_kind}
use Rattle.field_bounds.specs.Schema.{SchemaValue}
use Rattle.field_bounds.specs.Owed.{max_total}
use Rattle.kept_records.specs.declared.total.Total.{Total}
use Rattle.kept_records.specs.declared.record.Record.{Record}
use Rattle.kept_records.specs.Summary.{SummaryValue, rights_told, told_more, total_told, cut_told}
use Rattle.kept_records.specs.Summaries.{IsWhereDue}
use Rattle.kept_records.specs.Text.{IsListed}
use Rattle.kept_records.specs.Stands.{greatest, given_in, accepted_in, cut_in, own_in, is_other_site, summary_of}
use Rattle.kept_records.proofs.Told.{all_placed}
use Rattle.log_replay.proofs.Told.{totals_same, rights_same, cuts_same}
use Rattle.log_bases.specs.Bases.{told_again}

-- ---- what is told of totals that are in place and in range

pub told_few : (ts : List Total) → AllByRecursion IsListed ts → (r f : ℕ) (k : Kind) → total_told ts r f k ≤ max_total
unfolding total_told
told_few ts all r f k = go ts all 0 (omega arith)
  where
    one : (b : Bool) (n z : ℕ) → n ≤ max_total → z ≤ max_total → cond b n z ≤ max_total
    one true n z few le = few
    one false n z few le = le

    go : (ts : List Total) → AllByRecursion IsListed ts → (z : ℕ) → z ≤ max_total → fold (told_more r f k) z ts ≤ max_total
    go [] all z le = le
    go (t ∷ ts) all z le = go ts all.1 (told_more r f k z t) (one ((t.site.0 == r) && (t.field.0 == f) && same_kind t.kind k) t.total z all.0.2.1 le)

pub told_placed : (schema : SchemaValue) (s : ℕ) (ts : List Total) → AllByRecursion (λ t. IsWhereDue schema s t) ts → (r f : ℕ) (k : Kind)
    → 0 < total_told ts r f k → is_other_site schema s r ≡ true
unfolding total_told
told_placed schema s ts all r f k some = go ts all 0 (λ h. absurd (omega (arith, h))) some
  where
    here : (t : Total) → IsWhereDue schema s t → t.site.0 ≡ r → is_other_site schema s r ≡ true
    here t due same =
        subst (λ (x : ℕ). is_other_site schema s x ≡ true) same
        (rw (lt-ltb t.site.0 schema.sites due.site_in, ne_eqb t.site.0 s due.other) refl)

    one : (b : Bool) (t : Total) (z : ℕ) → ((t.site.0 == r) && (t.field.0 == f) && same_kind t.kind k) ≡ b → IsWhereDue schema s t
        → (0 < z → is_other_site schema s r ≡ true) → 0 < cond b t.total z → is_other_site schema s r ≡ true
    one true t z e due before some =
        let p = and_parts ((t.site.0 == r) && (t.field.0 == f)) (same_kind t.kind k) e in
        let q = and_parts (t.site.0 == r) (t.field.0 == f) p.0 in
        here t due (eqb-true _ _ q.0)
    one false t z e due before some = before some

    go : (ts : List Total) → AllByRecursion (λ t. IsWhereDue schema s t) ts → (z : ℕ) → (0 < z → is_other_site schema s r ≡ true)
        → 0 < fold (told_more r f k) z ts → is_other_site schema s r ≡ true
    go [] all z before some = before some
    go (t ∷ ts) all z before some =
        go ts all.1 (told_more r f k z t)
        (one ((t.site.0 == r) && (t.field.0 == f) && same_kind t.kind k) t z refl all.0 before) some

-- ---- where the totals of a canonical base stand

pub gifts_due : (schema : SchemaValue) (s : ℕ) (base : SummaryValue) → base ≡ told_again schema s base
    → AllByRecursion (λ t. IsWhereDue schema s t) base.gifts
gifts_due schema s base form =
    subst (λ (ts : List Total). AllByRecursion (λ t. IsWhereDue schema s t) ts) (sym (ap (λ (v : SummaryValue). v.gifts) form))
    (all_placed schema s (total_told base.gifts) schema.sites (omega arith))

pub accepts_due : (schema : SchemaValue) (s : ℕ) (base : SummaryValue) → base ≡ told_again schema s base
    → AllByRecursion (λ t. IsWhereDue schema s t) base.accepts
accepts_due schema s base form =
    subst (λ (ts : List Total). AllByRecursion (λ t. IsWhereDue schema s t) ts) (sym (ap (λ (v : SummaryValue). v.accepts) form))
    (all_placed schema s (total_told base.accepts) schema.sites (omega arith))

-- ---- the summary of records that stand for what a base tells

pub record StandsFor (schema : SchemaValue) (s : ℕ) (base : SummaryValue) (rs : List Record) : Type 0 where
  pub epoch : greatest rs ≡ base.epoch
  pub own : (f : ℕ) (k : Kind) → f < length schema.fields → own_in schema s rs f k ≡ rights_told base.rights f k
  pub cut : (f : ℕ) (k : Kind) → f < length schema.fields → cut_in rs f k ≡ cut_told base.tightenings f k
  pub given : (r f : ℕ) (k : Kind) → r < schema.sites → r ≢ s → f < length schema.fields → given_in rs r f k ≡ total_told base.gifts r f k
  pub accepted : (r f : ℕ) (k : Kind) → r < schema.sites → r ≢ s → f < length schema.fields
      → accepted_in rs r f k ≡ total_told base.accepts r f k

pub summary_again : (schema : SchemaValue) (s : ℕ) (base : SummaryValue) (rs : List Record) → StandsFor schema s base rs
    → summary_of schema s rs ≡ told_again schema s base
unfolding summary_of
summary_again schema s base rs is =
    let m = length schema.fields in
    rw (
      is.epoch,
      rights_same (own_in schema s rs) (rights_told base.rights) m is.own,
      totals_same (given_in rs) (total_told base.gifts) s m schema.sites is.given,
      totals_same (accepted_in rs) (total_told base.accepts) s m schema.sites is.accepted,
      cuts_same (cut_in rs) (cut_told base.tightenings) m is.cut,
    ) refl
