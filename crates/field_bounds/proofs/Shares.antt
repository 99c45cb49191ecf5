-- How the sums of each site are tied to each other.
use Rattle.std.proofs.Common.{◌≡◌, ℕ, ◌+◌, ◌-◌, ◌≢◌, max, Bool, true, false, not, Some, None, ◌&&◌, cond, List, [], ◌∷◌, refl, sym, arith, eqb}
use Rattle.std.proofs.lemmas.Bool.{eq-eqb, ne_eqb}
use Rattle.std.specs.Prelude.{unsigned_abs}
use Rattle.field_bounds.specs.declared.kind.Kind.{Kind}
use Rattle.field_bounds.specs.declared.id.TxnId.{TxnId}
use Rattle.field_bounds.specs.declared.effect.Effect.{Effect}
use Rattle.field_bounds.specs.declared.effect.Effect.TheVariants.{Begins, Grants, Commits, Aborts, Gives, Accepts, Stops}
use Rattle.field_bounds.specs.Kind.{kind_of, same_kind, other}
use Rattle.field_bounds.specs.Schema.{SchemaValue}
use Rattle.field_bounds.specs.Effects.{Base, is_committed, is_dropped, is_open, granted_sizes, is_to, is_for_good, gifts, total_accepted, gains, share}
use Rattle.field_bounds.specs.Parts.{sum_below}
use Rattle.field_bounds.proofs.Lawful.{IsLawful, covered}
use Rattle.field_bounds.proofs.Sums.{sum_below_bump, sum_below-zero, sum_below-same}

split_step : (on c d : Bool) (n : ℕ) → cond (on && true) n 0 ≡ cond (on && (not c && d)) n 0 + cond (on && c) n 0
    + cond (on && (not c && not d)) n 0
split_step false c d n = refl
split_step true true d n = omega arith
split_step true false true n = omega arith
split_step true false false n = omega arith

-- each granted escrow is aborted, committed or open
pub granted_split : (c d : TxnId → Bool) (f : ℕ) (k : Kind) (es : List Effect)
    → granted_sizes (λ _. true) f k es ≡ granted_sizes (λ id. not (c id) && d id) f k es + granted_sizes c f k es
    + granted_sizes (λ id. not (c id) && not (d id)) f k es
granted_split c d f k [] = refl
granted_split c d f k (Grants txn field change ∷ es) =
    omega (
      arith,
      granted_split c d f k es,
      split_step (eqb field.0 f && same_kind (kind_of change) k) (c txn) (d txn)
          (unsigned_abs change),
    )
granted_split c d f k (Begins txn ∷ es) = granted_split c d f k es
granted_split c d f k (Commits txn ∷ es) = granted_split c d f k es
granted_split c d f k (Aborts txn ∷ es) = granted_split c d f k es
granted_split c d f k (Gives to field kind amount ∷ es) = granted_split c d f k es
granted_split c d f k (Accepts from field kind total ∷ es) = granted_split c d f k es
granted_split c d f k (Stops ∷ es) = granted_split c d f k es

-- the rights of one site, without the aborted escrows on either side
pub balance : (schema : SchemaValue) (base : Base) (es : List Effect) → IsLawful schema base es → (f : ℕ) (k : Kind)
    → share base f k es + granted_sizes (λ id. is_committed id es) f k es + granted_sizes (λ id. is_open id es) f k es
    + gifts (λ _. true) f k es
    ≡ base.rights f k + granted_sizes (λ id. is_committed id es) f (other k) es + gains base f k es
balance schema base es lawful f k =
    omega (arith, covered schema base es lawful f k, granted_split (λ id. is_committed id es) (λ id. is_dropped id es) f k es)

-- ---- what left for all sites and for good, and gains from all

gift_here : (on : Bool) (to site amount : ℕ) → site ≢ to → cond (on && eqb to site) amount 0 ≡ 0
gift_here true to site amount apart = rw (ne_eqb to site (λ e. apart (sym e))) refl
gift_here false to site amount apart = refl

gift_there : (on : Bool) (to amount : ℕ) → cond (on && eqb to to) amount 0 ≡ cond (on && true) amount 0
gift_there true to amount = rw (eq-eqb to to refl) refl
gift_there false to amount = refl

gift_nowhere : (on : Bool) (amount : ℕ) → cond (on && false) amount 0 ≡ 0
gift_nowhere true amount = refl
gift_nowhere false amount = refl

-- all that left is the gifts to each, and what was given up for good
pub gifts_split : (schema : SchemaValue) (base : Base) (es : List Effect) → IsLawful schema base es → (f : ℕ) (k : Kind)
    → gifts (λ _. true) f k es ≡ sum_below schema.sites (λ to. gifts (is_to to) f k es) + gifts is_for_good f k es
gifts_split schema base [] lawful f k = omega (arith, sum_below-zero schema.sites)
gifts_split schema base (Gives None field kind amount ∷ es) lawful f k =
    let on = eqb field.0 f && same_kind kind k in
    omega (
      arith,
      gifts_split schema base es lawful.0 f k,
      sum_below-same schema.sites
          (λ j. gifts (is_to j) f k (Gives None field kind amount ∷ es))
          (λ j. gifts (is_to j) f k es)
          (λ j less. omega (arith, gift_nowhere on amount)),
    )
gifts_split schema base (Gives (Some to) field kind amount ∷ es) lawful f k =
    let on = eqb field.0 f && same_kind kind k in
    omega (
      arith,
      gifts_split schema base es lawful.0 f k,
      gift_nowhere on amount,
      sum_below_bump schema.sites
          (λ j. gifts (is_to j) f k es)
          (λ j. gifts (is_to j) f k (Gives (Some to) field kind amount ∷ es))
          to.0 (cond (on && true) amount 0) lawful.1.to_site
          (omega (arith, gift_there on to.0 amount))
          (λ j apart. omega (arith, gift_here on to.0 j amount apart)),
    )
gifts_split schema base (Grants txn field change ∷ es) lawful f k = gifts_split schema base es lawful.0 f k
gifts_split schema base (Begins txn ∷ es) lawful f k = gifts_split schema base es lawful.0 f k
gifts_split schema base (Commits txn ∷ es) lawful f k = gifts_split schema base es lawful.0 f k
gifts_split schema base (Aborts txn ∷ es) lawful f k = gifts_split schema base es lawful.0 f k
gifts_split schema base (Accepts from field kind total ∷ es) lawful f k = gifts_split schema base es lawful.0 f k
gifts_split schema base (Stops ∷ es) lawful f k = gifts_split schema base es lawful.0 f k

gain_there : (on : Bool) (from total before : ℕ) → cond (on && eqb from from) (max total before) before ≡ before
    + cond on (total - before) 0
gain_there true from total before = rw (eq-eqb from from refl) (omega arith)
gain_there false from total before = omega arith

gain_here : (on : Bool) (site from total before : ℕ) → from ≢ site → cond (on && eqb site from) (max total before) before ≡ before
gain_here true site from total before apart = rw (ne_eqb site from (λ e. apart (sym e))) refl
gain_here false site from total before apart = refl

-- the gains of all are what was accepted from each
pub gains_split : (schema : SchemaValue) (base : Base) (es : List Effect) → IsLawful schema base es → (f : ℕ) (k : Kind)
    → gains base f k es + sum_below schema.sites (λ from. base.accepted from f k)
    ≡ sum_below schema.sites (λ from. total_accepted base from f k es)
gains_split schema base [] lawful f k = omega arith
gains_split schema base (Accepts site field kind total ∷ es) lawful f k =
    let on = eqb field.0 f && same_kind kind k in
    omega (
      arith,
      gains_split schema base es lawful.0 f k,
      sum_below_bump schema.sites
          (λ from. total_accepted base from f k es)
          (λ from. total_accepted base from f k (Accepts site field kind total ∷ es))
          site.0 (cond on (total - total_accepted base site.0 f k es) 0) lawful.1.from_site
          (gain_there on site.0 total (total_accepted base site.0 f k es))
          (λ from apart. gain_here on site.0 from total (total_accepted base from f k es) apart),
    )
gains_split schema base (Gives to field kind amount ∷ es) lawful f k = gains_split schema base es lawful.0 f k
gains_split schema base (Grants txn field change ∷ es) lawful f k = gains_split schema base es lawful.0 f k
gains_split schema base (Begins txn ∷ es) lawful f k = gains_split schema base es lawful.0 f k
gains_split schema base (Commits txn ∷ es) lawful f k = gains_split schema base es lawful.0 f k
gains_split schema base (Aborts txn ∷ es) lawful f k = gains_split schema base es lawful.0 f k
gains_split schema base (Stops ∷ es) lawful f k = gains_split schema base es lawful.0 f k
