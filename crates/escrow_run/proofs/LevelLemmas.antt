-- The gifts that level a field: who takes part, and that a world takes them.
use Rattle.std.proofs.Common.{◌≡◌, ℕ, zero, suc, ◌+◌, ◌*◌, ◌<◌, ◌≤◌, ℤ, pos, neg_ℤ, ◌-ℤ◌, ◌≤ℤ◌, Bool, true, false, List, [], ◌∷◌, ◌++◌, Some, None, length, map, get_or, reverse, refl, sym, ap, subst, ◌∙◌, arith, inl, inr}
use Rattle.std.specs.Fmt.{decimal}
use Rattle.std.specs.Prelude.{codes, sum, All, unsigned_abs, if◌then◌else◌}
use Rattle.std.proofs.lemmas.Bool.{cases_lt}
use Rattle.std.proofs.lemmas.Int.{ints}
use Rattle.std.proofs.lemmas.List.{get_or_past, map-append, reverse-append}
use Rattle.std.proofs.lemmas.List.Elements.{All-nil, All-cons, All-head, All-tail, All-append, All-map, All-from_recursion}
use Rattle.std.proofs.lemmas.List.Sums.{sum_by_push}
use Rattle.std.proofs.lemmas.Option.{same_Some}
use Rattle.field_bounds.specs.declared.kind.Kind.{Kind}
use Rattle.field_bounds.specs.declared.id.SiteNo.{SiteNo}
use Rattle.field_bounds.specs.declared.id.FieldNo.{FieldNo}
use Rattle.field_bounds.specs.declared.entry.Entry.{Entry}
use Rattle.field_bounds.specs.Schema.{SchemaValue}
use Rattle.field_bounds.specs.Limits.{max_quantity, IsField, IsSchema}
use Rattle.field_bounds.specs.Parts.{no_field, field_at, width_of}
use Rattle.field_bounds.specs.Effects.{fresh}
use Rattle.field_bounds.specs.Owed.{is_up}
use Rattle.field_bounds.specs.Central.{own}
use Rattle.rebalance.specs.declared.even_plan.Move.{Move}
use Rattle.rebalance.specs.EvenPlan.{moves_before, even_plan}
use Rattle.world_steps.specs.declared.step.WorldStep.{WorldStep}
use Rattle.world_steps.specs.World.{StepFits}
use Rattle.world_steps.proofs.Sound.{StepsFit}
use Rattle.world_steps.specs.View.{WorldValue, trace_of}
use Rattle.escrow_run.specs.Level.{sites_up, free_at, gift_of, gifts_among, level_gifts}
use Rattle.escrow_run.specs.Text.{Levels, AsksSteps}

-- ---- the sites that are up are sites of the schema

abbrev AreIn : ℕ → List SiteNo → Type 0
AreIn n sites = All (λ (site : SiteNo). site.0 < n) sites

one_in : (up : Bool) (s n : ℕ) → s < n → AreIn n (if up then record { 0 = s } ∷ [] else [])
one_in true s n below = All-cons (λ (site : SiteNo). site.0 < n) _ [] below (All-nil _)
one_in false s n below = All-nil (λ (site : SiteNo). site.0 < n)

up_in : (schema : SchemaValue) (t : List Entry) (n m : ℕ) → m ≤ n → AreIn n (sites_up schema t m)
up_in schema t n zero below = All-nil (λ (site : SiteNo). site.0 < n)
up_in schema t n (suc s) below =
    All-append (λ (site : SiteNo). site.0 < n) (sites_up schema t s) _ (up_in schema t n s (omega arith))
    (one_in (is_up (fresh schema s) (own s t)) s n (omega arith))

-- ---- a world takes the gifts

site_in : (n k : ℕ) (sites : List SiteNo) → 0 < n → AreIn n sites → (get_or sites k (record { 0 = 0 })).0 < n
site_in n k sites some within = elim (cases_lt k (length sites)) [
  | inl h ↦ within k (record { 0 = 0 }) h
  | inr h ↦ rw (get_or_past sites k (record { 0 = 0 }) h) some
]

among_fit : (schema : SchemaValue) (t : List Entry) (sites : List SiteNo) (field : FieldNo) (kind : Kind) → AreIn schema.sites sites
    → All (StepFits schema) (gifts_among schema t sites field kind)
unfolding even_plan moves_before
among_fit schema t [] field kind within = All-nil (StepFits schema)
among_fit schema t (site ∷ sites) field kind within =
    let some : 0 < schema.sites = omega (arith, All-head (λ (s : SiteNo). s.0 < schema.sites) site sites within) in
    let plan : List Move = even_plan (map (free_at schema t field kind) (site ∷ sites)) in
    All-map (StepFits schema) (gift_of (site ∷ sites) field kind) plan
    (λ k d lt. (site_in schema.sites (get_or plan k d).from (site ∷ sites) some within, refl))

pub gifts_fit : (schema : SchemaValue) (t : List Entry) (field : FieldNo) (kind : Kind)
    → All (StepFits schema) (level_gifts schema t field kind)
gifts_fit schema t field kind =
    among_fit schema t (sites_up schema t schema.sites) field kind (up_in schema t schema.sites schema.sites (omega arith))

pub fit_both : (schema : SchemaValue) (xs ys : List WorldStep) → StepsFit schema xs → StepsFit schema ys → StepsFit schema (xs ++ ys)
fit_both schema [] ys h k = k
fit_both schema (x ∷ xs) ys h k = (fit_both schema xs ys h.0 k, h.1)

pub all_fit : (schema : SchemaValue) (steps : List WorldStep) → All (StepFits schema) steps → StepsFit schema (reverse steps)
all_fit schema [] h = tt
all_fit schema (x ∷ steps) h =
    subst (λ (l : List WorldStep). StepsFit schema l) (sym (reverse-append (x ∷ []) steps))
    (fit_both schema (reverse steps) (x ∷ []) (all_fit schema steps (All-tail (StepFits schema) x steps h)) (
      tt,
      All-head (StepFits schema) x steps h,
    ))

pub level_fits : (schema : SchemaValue) (t : List Entry) (field : FieldNo) (kind : Kind) (old : List WorldStep)
    → StepsFit schema old → StepsFit schema (reverse (level_gifts schema t field kind) ++ old)
level_fits schema t field kind old fit =
    fit_both schema (reverse (level_gifts schema t field kind)) old
    (all_fit schema (level_gifts schema t field kind) (gifts_fit schema t field kind)) fit

-- ---- what a site has free

-- a site that is up takes part
pub some_more : (up : Bool) (x y s : ℕ) (sites : List SiteNo) → Some y ≡ (if up then Some x else None)
    → (y ≡ x) × (sites ++ record { 0 = s } ∷ [] ≡ sites ++ (if up then record { 0 = s } ∷ [] else []))
some_more true x y s sites told = (same_Some y x told, refl)
some_more false x y s sites told = cc

-- the shares with one more site's
pub shares_more : (f : SiteNo → ℕ) (sites : List SiteNo) (shares : List ℕ) (site : SiteNo) (free : ℕ) → shares ≡ map f sites → free ≡ f site
    → shares ++ free ∷ [] ≡ map f (sites ++ site ∷ [])
shares_more f sites shares site free before last =
    ap (λ (l : List ℕ). l ++ free ∷ []) before ∙ ap (λ (n : ℕ). map f sites ++ n ∷ []) last ∙ sym (map-append f sites (site ∷ []))

-- the width of a field of the schema
width_few : (floor value ceiling : ℤ) → neg_ℤ (pos max_quantity) ≤ℤ floor → floor ≤ℤ value → value ≤ℤ ceiling → ceiling ≤ℤ pos max_quantity
    → unsigned_abs (ceiling -ℤ floor) ≤ 2_000_000_000_000_000
width_few floor value ceiling least low high most = omega (arith, ints, least, low, high, most)

pub field_few : (schema : SchemaValue) → IsSchema schema → (f : ℕ) → f < length schema.fields
    → width_of (field_at schema f) ≤ 2_000_000_000_000_000
field_few schema good f known =
    let of : IsField (field_at schema f) = All-from_recursion IsField schema.fields good.each f no_field known in
    width_few (field_at schema f).floor (field_at schema f).value (field_at schema f).ceiling of.least of.floor of.ceiling of.most

pub sum_within : (shares : List ℕ) (free s : ℕ) → sum shares ≤ s * 2_000_000_000_000_000 → free ≤ 2_000_000_000_000_000
    → sum (shares ++ free ∷ []) ≤ (s + 1) * 2_000_000_000_000_000
sum_within shares free s few small = omega (arith, sum_by_push (λ (y : ℕ). y) shares free)

-- ---- the line asks the gifts of the plan

pub asks_level : (w : WorldValue) (line : List ℕ) (field : FieldNo) (kind : Kind) (gifts : List WorldStep)
    → Levels w.schema line field kind → gifts ≡ level_gifts w.schema (trace_of w) field kind
    → AsksSteps w.schema line (reverse w.steps) gifts (line ++ codes " -> moves " ++ decimal (length gifts))
asks_level w line field kind gifts levels are = inl (record {
  field = field;
  kind = kind;
  levels = levels;
  steps_are = are;
  head_is = ap (λ (l : List ℕ). l ++ codes " -> moves " ++ decimal (length gifts)) levels.text;
})
