-- Where no fault of reach holds.
use Rattle.std.proofs.Common.{◌≡◌, ℕ, zero, suc, ◌<◌, ◌≢◌, Bool, true, false, not, ◌&&◌, ◌||◌, List, [], ◌∷◌, length, refl, subst, inl, inr, arith, eqb, ltb, leb, Option, Some, None}
use Rattle.std.proofs.lemmas.Bool.{cases_eq, or_parts, and_cases, not-false, ltb-false, leb-false, lt-ltb, eqb-false, ne_eqb}
use Rattle.std.proofs.lemmas.Int.{ints}
use Rattle.std.specs.Prelude.{ℤ, pos, negsuc, ◌≤ℤ◌, int_lt, is_some, if◌then◌else◌}
use Rattle.field_bounds.specs.declared.kind.Kind.{Kind}
use Rattle.field_bounds.specs.declared.kind.Kind.TheVariants.{Lower, Raise}
use Rattle.field_bounds.specs.declared.id.SiteNo.{SiteNo}
use Rattle.field_bounds.specs.declared.id.FieldNo.{FieldNo}
use Rattle.field_bounds.specs.declared.entry.Entry.{Entry}
use Rattle.field_bounds.specs.Schema.{SchemaValue}
use Rattle.field_bounds.specs.Effects.{fresh}
use Rattle.field_bounds.specs.Owed.{place, count_since, is_begun_reply, max_number, interval_at}
use Rattle.field_bounds.specs.Statements.{IsIssued}
use Rattle.field_bounds.specs.Central.{own, cuts, given_between}
use Rattle.world_steps.specs.World.{statements_issued}
use Rattle.world_steps.proofs.Issued.{numbered_is_issued}
use Rattle.reaching_steps.specs.declared.fault.ReachFault.{ReachFault}
use Rattle.reaching_steps.specs.declared.fault.ReachFault.TheVariants.{NoSite, NoField, NotUp, InFlight, Unstated, Tightened, Numbers, Outside}
use Rattle.reaching_steps.specs.Reach.{least, fault_at, fault_if, first_fault, is_down, is_short_of, is_unstated, is_tightened, has_no_number, lies_outside, reach_faults, reach_fault, number_of, telling}
use Rattle.reaching_steps.proofs.Numbers.{numbered_number}
use Rattle.reaching_steps.proofs.Passing.{Calm}

first_none : (x : Option ReachFault) (rest : List (Option ReachFault)) → first_fault (x ∷ rest) ≡ None → (x ≡ None)
    × (first_fault rest ≡ None)
first_none None rest h = (refl, h)
first_none (Some fault) rest h = cc

abbrev AllNone : List (Option ReachFault) → Type 0
AllNone [] = Unit {0}
AllNone (x ∷ rest) = (x ≡ None) × AllNone rest

all_none : (faults : List (Option ReachFault)) → first_fault faults ≡ None → AllNone faults
all_none [] h = tt
all_none (x ∷ rest) h = let parts = first_none x rest h in (parts.0, all_none rest parts.1)

if_none : (b : Bool) (fault : ReachFault) → fault_if b fault ≡ None → b ≡ false
if_none true fault h = cc
if_none false fault h = refl

at_none : (g : SiteNo → ReachFault) (o : Option ℕ) → fault_at g o ≡ None → o ≡ None
at_none g None h = refl
at_none g (Some s) h = cc

least_step : (before : Option ℕ) (b : Bool) (n : ℕ) → (if is_some before then before else (if b then Some n else None)) ≡ None
    → (before ≡ None) × (b ≡ false)
least_step None true n h = cc
least_step None false n h = (refl, refl)
least_step (Some x) b n h = cc

none_below : (n : ℕ) (p : ℕ → Bool) → least n p ≡ None → (i : ℕ) → i < n → p i ≡ false
none_below zero p h i below = absurd (omega (arith, below))
none_below (suc n) p h i below =
    let parts = least_step (least n p) (p n) n h in
    elim (cases_eq n i) [
      | inl same ↦ subst (λ (j : ℕ). p j ≡ false) same parts.1
      | inr apart ↦ none_below n p parts.0 i (omega (arith, below, apart))
    ]

not_less : (x y : ℤ) → int_lt x y ≡ false → y ≤ℤ x
not_less (pos a) (pos b) h = omega (arith, ints, ltb-false a b h)
not_less (pos a) (negsuc b) h = omega (arith, ints)
not_less (negsuc a) (pos b) h = cc
not_less (negsuc a) (negsuc b) h = omega (arith, ints, ltb-false b a h)

both_kinds : (p : Kind → Bool) → (p Lower || p Raise) ≡ false → (k : Kind) → p k ≡ false
both_kinds p h Lower = (or_parts (p Lower) (p Raise) h).0
both_kinds p h Raise = (or_parts (p Lower) (p Raise) h).1

-- what holds where no fault does
pub record IsClear (schema : SchemaValue) (t : List Entry) (site : SiteNo) (field : FieldNo) (target : ℤ) : Type 0 where
  pub site_in : site.0 < schema.sites
  pub known : field.0 < length schema.fields
  pub calm : Calm schema site.0 field.0 t
  pub low : (interval_at (place schema site.0 (fresh schema site.0) (own site.0 t)) field).0 ≤ℤ target
  pub high : target ≤ℤ (interval_at (place schema site.0 (fresh schema site.0) (own site.0 t)) field).1

stated : (schema : SchemaValue) (t : List Entry) (f from to : ℕ) (k : Kind) → is_unstated schema t f from to k ≡ false
    → given_between schema t f k from to ≢ 0 → IsIssued (telling schema t f k from to) t
stated schema t f from to k h some =
    let told = telling schema t f k from to in
    let more : ltb 0 (given_between schema t f k from to) ≡ true = lt-ltb _ _ (omega (arith, some)) in
    elim (and_cases (ltb 0 (given_between schema t f k from to)) (eqb (number_of told (statements_issued t)) 0) h) [
      | inl nothing ↦ absurd cc
      | inr has ↦
          numbered_is_issued (number_of told (statements_issued t)) t told (numbered_number told (statements_issued t) (eqb-false _ _ has))
    ]

numbered_left : (b c : Bool) → b ≡ false → (not b && c) ≡ false → c ≡ false
numbered_left true c h g = cc
numbered_left false c h g = g

none_cut : (n : ℕ) → ltb 0 n ≡ false → n ≡ 0
none_cut n h = omega (arith, ltb-false 0 n h)

pub is_clear : (schema : SchemaValue) (t : List Entry) (site : SiteNo) (field : FieldNo) (target : ℤ)
    → reach_fault schema t site field target ≡ None → IsClear schema t site field target
is_clear schema t site field target h =
    let interval = interval_at (place schema site.0 (fresh schema site.0) (own site.0 t)) field in
    let none = all_none (reach_faults schema t site field target) h in
    let ups = none_below schema.sites (is_down schema t) (at_none NotUp (least schema.sites (is_down schema t)) none.1.1.0) in
    let is_short : ℕ → Bool = λ from. is_short_of schema t field.0 site.0 from Lower || is_short_of schema t field.0 site.0 from Raise in
    let shorts = none_below schema.sites is_short (at_none InFlight (least schema.sites is_short) none.1.1.1.0) in
    let is_untold : ℕ → Bool = λ to. is_unstated schema t field.0 site.0 to Lower || is_unstated schema t field.0 site.0 to Raise in
    let tolds = none_below schema.sites is_untold (at_none Unstated (least schema.sites is_untold) none.1.1.1.1.0) in
    let cut_parts = or_parts (ltb 0 (cuts schema t field.0 Lower)) (ltb 0 (cuts schema t field.0 Raise))
    (if_none (is_tightened schema t field.0) Tightened none.1.1.1.1.1.0) in
    let numbers = none_below schema.sites (has_no_number schema t site.0)
    (at_none Numbers (least schema.sites (has_no_number schema t site.0)) none.1.1.1.1.1.1.0) in
    let out = or_parts (int_lt target interval.0) (int_lt interval.1 target)
    (if_none (lies_outside interval target) (Outside interval.0 interval.1) none.1.1.1.1.1.1.1.0) in
    record {
      site_in = leb-false _ _ (if_none (leb schema.sites site.0) NoSite none.0);
      known = leb-false _ _ (if_none (leb (length schema.fields) field.0) NoField none.1.0);
      calm = record {
        ups = λ s below. not-false _ (ups s below);
        numbers = λ s below apart. leb-false _ _ (numbered_left (eqb s site.0) (leb max_number (count_since is_begun_reply (own s t)))
            (ne_eqb s site.0 apart) (numbers s below));
        mine_in = λ from k below. ltb-false _ _ (both_kinds (λ x. is_short_of schema t field.0 site.0 from x) (shorts from below) k);
        told = λ to k below some. stated schema t field.0 site.0 to k
            (both_kinds (λ x. is_unstated schema t field.0 site.0 to x) (tolds to below) k) some;
        uncut = uncut cut_parts.0 cut_parts.1;
      };
      low = not_less _ _ out.0;
      high = not_less _ _ out.1;
    }
  where
    uncut : ltb 0 (cuts schema t field.0 Lower) ≡ false → ltb 0 (cuts schema t field.0 Raise) ≡ false → (k : Kind)
        → cuts schema t field.0 k ≡ 0
    uncut lower raise Lower = none_cut _ lower
    uncut lower raise Raise = none_cut _ raise
