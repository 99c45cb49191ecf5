-- The rights of a site, from sums over what took effect there.
use Rattle.std.proofs.Common.{◌≡◌, ℕ, zero, suc, ◌+◌, ◌-◌, ◌*◌, ◌<◌, ◌≤◌, Bool, true, false, ◌&&◌, List, [], None, refl, ◌∙◌, arith, add-one}
use Rattle.std.specs.Prelude.{ℤ, pos, ◌+ℤ◌, ◌-ℤ◌, ◌≤ℤ◌, neg_ℤ}
use Rattle.std.proofs.lemmas.Int.{ints}
use Rattle.field_bounds.specs.declared.kind.Kind.{Kind}
use Rattle.field_bounds.specs.declared.kind.Kind.TheVariants.{Lower, Raise}
use Rattle.field_bounds.specs.Kind.{other}
use Rattle.field_bounds.specs.declared.entry.Entry.{Entry}
use Rattle.field_bounds.specs.Schema.{SchemaValue}
use Rattle.field_bounds.specs.Limits.{IsSchema, max_quantity}
use Rattle.field_bounds.specs.Parts.{sum_below, part_of, field_at}
use Rattle.field_bounds.specs.declared.effect.Effect.{Effect}
use Rattle.field_bounds.specs.Effects.{fresh, granted_sizes, gifts, is_to, cut, total_accepted, share, held_rights, own_rights, is_committed, is_open}
use Rattle.field_bounds.specs.Owed.{max_change, max_total}
use Rattle.field_bounds.specs.Central.{own, at_site, committed_value, given_between, IsSound}
use Rattle.field_bounds.proofs.Steps.{granted-same}
use Rattle.reaching_steps.specs.declared.standing.FieldHoldings.{FieldHoldings}
use Rattle.reaching_steps.specs.FieldHoldings.{is_of, held_sizes, Tells}
use Rattle.field_bounds.proofs.Sums.{sum_below-zero, sum_below-same}
use Rattle.field_bounds.proofs.Lawful.{IsLawful}
use Rattle.field_bounds.proofs.Shares.{balance, gains_split}
use Rattle.field_bounds.proofs.Shares.{gifts_split}
use Rattle.field_bounds.proofs.Sums.{term_below}
use Rattle.field_bounds.proofs.Sound.{sound_empty}
use Rattle.field_bounds.proofs.Ledgers.{accepted_is_given}
use Rattle.field_bounds.proofs.Headline.{within_bounds}
use Rattle.field_bounds.proofs.Conserved.{traced, open_of, free_of, lawful_at}
use Rattle.field_bounds.specs.Central.{is_open_in}
use Rattle.reaching_steps.proofs.Balance.{all_near, all_small, share_small}
use Rattle.reaching_steps.proofs.Changing.{committed_is, settled_at}
use Rattle.reaching_steps.proofs.Ledger.{run_is_fair}

pub owned_is : (schema : SchemaValue) (s : ℕ) (es : List Effect) → IsLawful schema (fresh schema s) es → (f : ℕ) (k : Kind)
    → share (fresh schema s) f k es + granted_sizes (λ id. is_committed id es) f k es + held_rights f k es + gifts (λ _. true) f k es
    ≡ part_of schema s f k + granted_sizes (λ id. is_committed id es) f (other k) es
    + sum_below schema.sites (λ from. total_accepted (fresh schema s) from f k es)
owned_is schema s es lawful f k =
    let gains = gains_split schema (fresh schema s) es lawful f k in
    omega (arith, balance schema (fresh schema s) es lawful f k, gains, sum_below-zero schema.sites)

-- what an open transaction holds, and what is settled, fits
pub held_fits : (f : ℕ) (had : FieldHoldings) (es : List Effect) → Tells f had es
    → (held_sizes (is_of None) Lower had.held.items ≤ 340282366920938463463374607431768211455)
    × (held_sizes (is_of None) Raise had.held.items ≤ 340282366920938463463374607431768211455)
held_fits f had es tells = (omega (arith, tells.few, tells.short), omega (arith, tells.few, tells.short))

pub settled_fits : (f : ℕ) (k : Kind) (had : FieldHoldings) (es : List Effect) → Tells f had es → (settled : ℕ)
    → settled ≡ granted_sizes (λ id. is_committed id es) f k es → settled ≤ 170141183460469231731687303715884105728
settled_fits f Lower had es tells settled is = omega (arith, is, tells.lowered, tells.few, tells.short)
settled_fits f Raise had es tells settled is = omega (arith, is, tells.raised, tells.few, tells.short)

-- the rights, from what is kept of the site
pub rights_are : (schema : SchemaValue) (s f : ℕ) (k : Kind) (had : FieldHoldings) (es : List Effect) → IsLawful schema (fresh schema s) es
    → Tells f had es → (part turned gained settled gone held_ own_ free : ℕ) → part ≡ part_of schema s f k
    → turned ≡ granted_sizes (λ id. is_committed id es) f (other k) es → settled ≡ granted_sizes (λ id. is_committed id es) f k es
    → gained ≡ sum_below schema.sites (λ from. total_accepted (fresh schema s) from f k had.gifts.items)
    → gone ≡ gifts (λ _. true) f k had.gifts.items → held_ ≡ held_sizes (is_of None) k had.held.items
    → own_ ≡ ((part + gained) + turned) - settled - gone → free ≡ own_ - held_
    → (own_ ≡ own_rights (fresh schema s) f k es) × (free ≡ share (fresh schema s) f k es)
rights_are schema s f k had es lawful stands part turned gained settled gone held_ own_ free part_is turned_is settled_is gained_is gone_is held_is own_is free_is =
    let held_all : held_ ≡ held_rights f k es =
    held_is ∙ stands.held (is_of None) k
    ∙ granted-same schema (fresh schema s) (λ id. is_open id es && true) (λ id. is_open id es) f k es lawful
    (λ id there. same (is_open id es)) in
    let gone_all = stands.given (λ _. true) k in
    let gained_all = sum_below-same schema.sites (λ from. total_accepted (fresh schema s) from f k had.gifts.items)
    (λ from. total_accepted (fresh schema s) from f k es) (λ from below. stands.accepted schema s from k) in
    let whole = owned_is schema s es lawful f k in (
      omega (arith, whole, held_all, gone_all, gained_all, gone_is, gained_is, part_is, turned_is, settled_is, own_is),
      omega (arith, whole, held_all, gone_all, gained_all, gone_is, gained_is, part_is, turned_is, settled_is, own_is, free_is),
    )
  where
    same : (b : Bool) → (b && true) ≡ b
    same true = refl
    same false = refl

sum_bound : (n m : ℕ) (F : ℕ → ℕ) → ((j : ℕ) → j < n → F j ≤ m) → sum_below n F ≤ n * m
sum_bound zero m F h = omega arith
sum_bound (suc n) m F h = omega (arith, sum_bound n m F (λ j less. h j (omega (arith, less))), h n (omega arith))

-- what was given to one site is within the greatest total
pub given_small : (schema : SchemaValue) (t : List Entry) → IsSound schema t → (from to f : ℕ) (k : Kind) → from < schema.sites
    → given_between schema t f k from to ≤ max_total
given_small schema t sound from to f k below = (run_is_fair schema from (own from t) (sound.runs from below)).within to f k

module _ (schema : SchemaValue) (good : IsSchema schema) (t : List Entry) (sound : IsSound schema t) where
  -- the own rights of a site and what it has given up for good are within the greatest change
  pub guarded_small : (s : ℕ) (f : ℕ) (k : Kind) → s < schema.sites
      → cut (fresh schema s) f k (at_site schema t s) + own_rights (fresh schema s) f k (at_site schema t s) ≤ max_change
  guarded_small s f k below =
      let free = term_below schema.sites (free_of schema good t sound f k) s below in
      let opened = term_below schema.sites (open_of schema good t sound f k) s below in
      let gone = term_below schema.sites (λ j. cut (fresh schema j) f k (at_site schema t j)) s below in
      omega (arith, all_small schema good t sound f k, free, opened, gone, traced schema good t sound (is_open_in schema t) f k)

  pub own_small : (s : ℕ) (f : ℕ) (k : Kind) → s < schema.sites → own_rights (fresh schema s) f k (at_site schema t s) ≤ max_change
  own_small s f k below = omega (arith, guarded_small s f k below)

  pub cut_small : (s : ℕ) (f : ℕ) (k : Kind) → s < schema.sites → cut (fresh schema s) f k (at_site schema t s) ≤ max_change
  cut_small s f k below = omega (arith, guarded_small s f k below)

  -- what is settled of one kind and of the other at a site is not far apart
  pub settled_near : (s f : ℕ) → s < schema.sites
      → (settled_at schema good f Raise t s ≤ settled_at schema good f Lower t s + 100_000_000_000_000_000_000)
      × (settled_at schema good f Lower t s ≤ settled_at schema good f Raise t s + 100_000_000_000_000_000_000)
  settled_near s f below =
      let es = at_site schema t s in
      let lawful = lawful_at schema good t sound s below in
      let whole = owned_is schema s es lawful f Lower in
      let small = own_small s f Lower below in
      let part = share_small schema good [] (sound_empty schema) f s Lower below in
      let all_given = gifts_split schema (fresh schema s) es lawful f Lower in
      let gave = sum_bound schema.sites max_total (λ to. gifts (is_to to) f Lower es) (λ to less. let one =
      given_small schema t sound s to f Lower below in omega (arith, one)) in
      let gone = cut_small s f Lower below in
      let took = sum_bound schema.sites max_total (λ from. total_accepted (fresh schema s) from f Lower es) (λ from less. let one =
      given_small schema t sound from s f Lower less in omega (arith, one, accepted_is_given schema t sound false f Lower from s)) in (
        omega (arith, whole, small, part, all_given, gave, gone, took, good.few_sites),
        omega (arith, whole, small, part, all_given, gave, gone, took, good.few_sites),
      )

  pub committed_near : (f : ℕ) → (neg_ℤ (pos max_quantity) ≤ℤ committed_value schema t f)
      × (committed_value schema t f ≤ℤ pos max_quantity)
  committed_near f =
      let law = within_bounds schema good t sound f in
      let near = all_near schema.fields good.each f in
      (omega (arith, ints, law.0, law.1, near.least, near.most), omega (arith, ints, law.0, law.1, near.least, near.most))

-- one site more
pub both_more : (F G : ℕ → ℕ) (i up down more less : ℕ) → up + sum_below i F ≡ down + sum_below i G → more + F i ≡ less + G i
    → (up + more) + sum_below (i + 1) F ≡ (down + less) + sum_below (i + 1) G
both_more F G i up down more less was is = rw add-one (omega (arith, was, is))

pub committed_from : (schema : SchemaValue) (good : IsSchema schema) (t : List Entry) → IsSound schema t → (f i n up down : ℕ) (value : ℤ)
    → i ≤ n → n ≤ i → n ≡ schema.sites
    → up + sum_below i (settled_at schema good f Lower t) ≡ down + sum_below i (settled_at schema good f Raise t)
    → value ≡ (field_at schema f).value → (value +ℤ (pos up -ℤ pos down)) ≡ committed_value schema t f
committed_from schema good t sound f i n up down value low high all is value_is =
    let same : i ≡ schema.sites = omega (arith, low, high, all) in
    let whole = rw same at is in
    omega (arith, ints, whole, value_is, committed_is schema good f t sound)
