-- Every sound trace is a run of one central store.
use Rattle.std.proofs.Common.{◌≡◌, ℕ, ◌+◌, ◌<◌, ◌≤◌, Bool, true, false, List, [], ◌∷◌, refl, sym, ◌∙◌, ap, inl, inr, arith, Some}
use Rattle.std.proofs.lemmas.Bool.{eqb-true, eqb-false, ltb-true}
use Rattle.std.proofs.lemmas.Int.{ints}
use Rattle.std.specs.Prelude.{unsigned_abs, ℤ, pos, ◌+ℤ◌, ◌-ℤ◌, ◌≤ℤ◌, ◌⊎◌, if◌then◌else◌}
use Rattle.field_bounds.specs.declared.kind.Kind.{Kind}
use Rattle.field_bounds.specs.declared.kind.Kind.TheVariants.{Lower, Raise}
use Rattle.field_bounds.specs.declared.entry.Command.{Command}
use Rattle.field_bounds.specs.declared.entry.Command.TheVariants.{Begin, Escrow, Give, Spare, Tighten, Read}
use Rattle.field_bounds.specs.declared.entry.Reply.{Reply}
use Rattle.field_bounds.specs.declared.entry.Reply.TheVariants.{Granted, Tightened, Between, Unsure, Refused}
use Rattle.field_bounds.specs.declared.entry.Refusal.{Refusal}
use Rattle.field_bounds.specs.declared.entry.Refusal.TheVariants.{Short}
use Rattle.field_bounds.specs.declared.entry.Entry.{Entry}
use Rattle.field_bounds.specs.Kind.{kind_of}
use Rattle.field_bounds.specs.Schema.{SchemaValue}
use Rattle.field_bounds.specs.Limits.{IsSchema}
use Rattle.field_bounds.specs.Parts.{field_at}
use Rattle.field_bounds.specs.Effects.{is_open, granted_sizes, own_rights, share, cut, fresh}
use Rattle.field_bounds.specs.Owed.{Place, Test, place, first, refusals, answer, AnswerFits, Fits}
use Rattle.field_bounds.specs.Central.{own, at_site, is_open_in, open_sizes, inf, sup, shares, cuts, floor_in, ceiling_in, OutcomesAreBounded, MayBeGranted, GrantRule, ShortageRule, IntervalRule, KeepsRules, IsCentral, IsSound, IsConserved}
use Rattle.field_bounds.proofs.Refused.{match_cases, is_refused, answered, escrow_is_enough, tighten_is_enough}
use Rattle.field_bounds.proofs.Sums.{term_below}
use Rattle.field_bounds.proofs.Traces.{sound_front, sound_fits}
use Rattle.field_bounds.proofs.Conserved.{outcomes_between, is_conserved, traced, free_of, open_of}

-- ---- a refusal Short comes from a test for it

abbrev short_here : Bool → Refusal → ℕ → Type 0 → Type 0
short_here b (Short x) h rest = ((b ≡ true) × (x ≡ h)) ⊎ rest
short_here b r h rest = rest

abbrev ShortHolds : List Test → ℕ → Type 0
ShortHolds [] h = ⊥
ShortHolds (test ∷ rest) h = short_here test.0 test.1 h (ShortHolds rest h)

some_short : (x h : ℕ) → Some (Short x) ≡ Some (Short h) → x ≡ h
some_short x h e = cc

short_step : (b : Bool) (r : Refusal) (rest : List Test) (h : ℕ) → (if b then Some r else first rest) ≡ Some (Short h)
    → (first rest ≡ Some (Short h) → ShortHolds rest h) → short_here b r h (ShortHolds rest h)
short_step true (Short x) rest h e more = inl (refl, some_short x h e)
short_step false (Short x) rest h e more = inr (more e)
short_step true r rest h e more = cc
short_step false r rest h e more = more e

short_holds : (tests : List Test) (h : ℕ) → first tests ≡ Some (Short h) → ShortHolds tests h
short_holds [] h e = cc
short_holds (test ∷ rest) h e = short_step test.0 test.1 rest h e (short_holds rest h)

-- and no test before it holds
abbrev before_short : Bool → Refusal → Type 0 → Type 0
before_short b (Short x) rest = Unit {0}
before_short b r rest = (b ≡ false) × rest

abbrev NoneBefore : List Test → Type 0
NoneBefore [] = Unit {0}
NoneBefore (test ∷ rest) = before_short test.0 test.1 (NoneBefore rest)

before_step : (b : Bool) (r : Refusal) (rest : List Test) (h : ℕ) → (if b then Some r else first rest) ≡ Some (Short h)
    → (first rest ≡ Some (Short h) → NoneBefore rest) → before_short b r (NoneBefore rest)
before_step b (Short x) rest h e more = tt
before_step true r rest h e more = cc
before_step false r rest h e more = (refl, more e)

none_before : (tests : List Test) (h : ℕ) → first tests ≡ Some (Short h) → NoneBefore tests
none_before [] h e = tt
none_before (test ∷ rest) h e = before_step test.0 test.1 rest h e (none_before rest h)

refused_same : (x y : Refusal) → Refused x ≡ Refused y → x ≡ y
refused_same x y e = cc

answer_is_no_refusal : (at : Place) (c : Command) → is_refused (answer at c) ≡ false
answer_is_no_refusal at Begin = refl
answer_is_no_refusal at c = refl

short_fits : (at : Place) (c : Command) (h : ℕ) → AnswerFits at c (Refused (Short h)) → ShortHolds (refusals at c) h
    × NoneBefore (refusals at c)
short_fits at c h fits =
    elim (match_cases (first (refusals at c)) _ _ fits) [
      | inl refused ↦
          let is = refused.1 ∙ ap Some (sym (refused_same (Short h) refused.0 refused.2)) in
          (short_holds (refusals at c) h is, none_before (refusals at c) h is)
      | inr met ↦ elim met.1 [
        | inl same ↦ let refuses : is_refused (answer at c) ≡ true = ap is_refused (sym same) in let not_so = answer_is_no_refusal at c in
            cc
        | inr unsure ↦ let refuses : is_refused Unsure ≡ true = ap is_refused (sym unsure.0) in cc
      ]
    ]

-- ---- the rules of one entry

between_same : (a b c d : ℤ) → Between a b ≡ Between c d → (a ≡ c) × (b ≡ d)
between_same a b c d e = (cc, cc)

module _ (schema : SchemaValue) (good : IsSchema schema) (t : List Entry) (sound : IsSound schema t) (s : ℕ)
    (below : s < schema.sites) where
  law : IsConserved schema t
  law = is_conserved schema good t sound

  share_within : (f : ℕ) (k : Kind) → share (fresh schema s) f k (at_site schema t s) ≤ shares schema t f k
  share_within f k = term_below schema.sites (free_of schema good t sound f k) s below

  cut_within : (f : ℕ) (k : Kind) → cut (fresh schema s) f k (at_site schema t s) ≤ cuts schema t f k
  cut_within f k = term_below schema.sites (λ i. cut (fresh schema i) f k (at_site schema t i)) s below

  open_within : (f : ℕ) (k : Kind) → granted_sizes (λ id. is_open id (at_site schema t s)) f k (at_site schema t s)
      ≤ open_sizes schema t f k
  open_within f k =
      omega (arith, traced schema good t sound (is_open_in schema t) f k, term_below schema.sites (open_of schema good t sound f k) s below)

  -- what is within all shares may be granted
  may_be_granted : (f : ℕ) (k : Kind) (n : ℕ) → n ≤ shares schema t f k → MayBeGranted schema t f k n
  may_be_granted f Lower n within = omega (arith, ints, law.lowering f, within)
  may_be_granted f Raise n within = omega (arith, ints, law.raising f, within)

  grant_step : (c : Command) (r : Reply) → Fits (place schema s (fresh schema s) (own s t)) c r → GrantRule schema t c r
  grant_step (Escrow txn field change) Granted fits =
      let none = (answered (place schema s (fresh schema s) (own s t)) (Escrow txn field change) Granted fits refl).0 in
      let enough = escrow_is_enough (place schema s (fresh schema s) (own s t)) txn field change none in
      λ known. may_be_granted field.0 (kind_of change) (unsigned_abs change) (omega (arith, enough, share_within field.0 (kind_of change)))
  grant_step (Tighten field kind amount) (Tightened total) fits =
      let none = (answered (place schema s (fresh schema s) (own s t)) (Tighten field kind amount) (Tightened total) fits refl).0 in
      let enough = tighten_is_enough (place schema s (fresh schema s) (own s t)) field kind amount none in
      λ known. may_be_granted field.0 kind amount (omega (arith, enough, share_within field.0 kind))
  grant_step c r fits = tt

  shortage_step : (c : Command) (r : Reply) → Fits (place schema s (fresh schema s) (own s t)) c r → ShortageRule schema t s c r
  shortage_step (Escrow txn field change) (Refused (Short h)) fits =
      let holds = short_fits (place schema s (fresh schema s) (own s t)) (Escrow txn field change) h fits in
      λ known. elim holds.0 [
        | inl here ↦ (sym here.1, omega (arith, ltb-true _ _ here.0, here.1))
        | inr none ↦ absurd none
      ]
  shortage_step (Give to field kind amount) (Refused (Short h)) fits =
      let holds = short_fits (place schema s (fresh schema s) (own s t)) (Give to field kind amount) h fits in
      λ known. elim holds.0 [
        | inl here ↦ (sym here.1, omega (arith, ltb-true _ _ here.0, here.1))
        | inr none ↦ absurd none
      ]
  shortage_step (Spare to field kind want) (Refused (Short h)) fits =
      let holds = short_fits (place schema s (fresh schema s) (own s t)) (Spare to field kind want) h fits in
      λ known. elim holds.0 [
        | inl here ↦ (sym here.1, omega (arith, eqb-true _ _ here.0, here.1, eqb-false want 0 (assumption holds.1)))
        | inr none ↦ absurd none
      ]
  shortage_step (Tighten field kind amount) (Refused (Short h)) fits =
      let holds = short_fits (place schema s (fresh schema s) (own s t)) (Tighten field kind amount) h fits in
      λ known. elim holds.0 [
        | inl here ↦ (sym here.1, omega (arith, ltb-true _ _ here.0, here.1))
        | inr none ↦ absurd none
      ]
  shortage_step c r fits = tt

  interval_step : (c : Command) (r : Reply) → Fits (place schema s (fresh schema s) (own s t)) c r → IntervalRule schema t c r
  interval_step (Read field) (Between lo hi) fits =
      let both = between_same _ _ _ _ (answered (place schema s (fresh schema s) (own s t)) (Read field) (Between lo hi) fits refl).1 in
      let low : lo ≡ ((field_at schema field.0).floor +ℤ pos
      (cut (fresh schema s) field.0 Lower (at_site schema t s) + own_rights (fresh schema s) field.0 Lower (at_site schema t s))) =
      both.0 in
      let high : hi ≡ ((field_at schema field.0).ceiling -ℤ pos
      (cut (fresh schema s) field.0 Raise (at_site schema t s) + own_rights (fresh schema s) field.0 Raise (at_site schema t s))) =
      both.1 in
      λ known. (
        omega (arith, ints, low, law.lowering field.0, share_within field.0 Lower, cut_within field.0 Lower, open_within field.0 Lower),
        omega (arith, ints, high, law.raising field.0, share_within field.0 Raise, cut_within field.0 Raise, open_within field.0 Raise),
      )
  interval_step c r fits = tt

keeps_rules : (schema : SchemaValue) → IsSchema schema → (e : Entry) (t : List Entry) → IsSound schema (e ∷ t) → KeepsRules schema t e
keeps_rules schema good e t sound =
    let front = sound_front schema e t sound in
    let below = sound.sites.1 in
    let fits = sound_fits schema e t sound in
    record {
      site = below;
      grant = grant_step schema good t front e.site.0 below e.command e.reply fits;
      shortage = shortage_step schema good t front e.site.0 below e.command e.reply fits;
      interval = interval_step schema good t front e.site.0 below e.command e.reply fits;
      statement = sound.statements.1;
    }

-- every sound trace is central
pub sound_is_central : (schema : SchemaValue) → IsSchema schema → (t : List Entry) → IsSound schema t → IsCentral schema t
sound_is_central schema good [] sound = tt
sound_is_central schema good (e ∷ t) sound =
    (sound_is_central schema good t (sound_front schema e t sound), keeps_rules schema good e t sound)

-- the infimum is not below the floor, and the supremum not above the ceiling
pub within_bounds : (schema : SchemaValue) → IsSchema schema → (t : List Entry) → IsSound schema t → (f : ℕ)
    → (floor_in schema t f ≤ℤ inf schema t f) × (sup schema t f ≤ℤ ceiling_in schema t f)
within_bounds schema good t sound f =
    let law = is_conserved schema good t sound in
    (omega (arith, ints, law.lowering f), omega (arith, ints, law.raising f))

-- so however the open transactions end, no field is left outside its bounds
pub outcomes_are_bounded : (schema : SchemaValue) → IsSchema schema → (t : List Entry) → IsSound schema t → OutcomesAreBounded schema t
outcomes_are_bounded schema good t sound f chosen =
    let bounds = within_bounds schema good t sound f in
    let between = outcomes_between schema t f chosen in
    (omega (arith, ints, bounds.0, between.0), omega (arith, ints, bounds.1, between.1))
