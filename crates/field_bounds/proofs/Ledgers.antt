-- No site has accepted more than it was given.
use Rattle.std.proofs.Common.{◌≡◌, ℕ, ◌+◌, ◌≤◌, max, Bool, true, false, ◌&&◌, cond, List, [], ◌∷◌, ◌++◌, refl, sym, ap, subst, inl, inr, arith, eqb, Option, Some, None}
use Rattle.std.proofs.lemmas.Bool.{cases_Bool, cases_eq, eq-eqb, eqb-true, and_parts}
use Rattle.field_bounds.specs.declared.kind.Kind.{Kind}
use Rattle.field_bounds.specs.declared.kind.Kind.TheVariants.{Lower, Raise}
use Rattle.field_bounds.specs.declared.id.FieldNo.{FieldNo}
use Rattle.field_bounds.specs.declared.id.SiteNo.{SiteNo}
use Rattle.field_bounds.specs.declared.entry.Statement.{Statement}
use Rattle.field_bounds.specs.declared.entry.Command.{Command}
use Rattle.field_bounds.specs.declared.entry.Command.TheVariants.{Give, Restate, Spare, Accept}
use Rattle.field_bounds.specs.declared.entry.Reply.{Reply}
use Rattle.field_bounds.specs.declared.entry.Reply.TheVariants.{Given, Stated, Spared, Accepted, Restarted, Unsure}
use Rattle.field_bounds.specs.declared.entry.Entry.{Entry}
use Rattle.field_bounds.specs.declared.effect.Effect.{Effect}
use Rattle.field_bounds.specs.declared.effect.Effect.TheVariants.{Gives, Accepts}
use Rattle.field_bounds.specs.Kind.{same_kind}
use Rattle.field_bounds.specs.Schema.{SchemaValue}
use Rattle.field_bounds.specs.Effects.{Base, effect_of, counts, with_effect, after, effects, doubt_kept_before, says_doubt_kept, is_to, is_for_good, gifts, total_given, cut, total_accepted, fresh}
use Rattle.field_bounds.specs.Owed.{Place, place, is_unsure, spare_of, told_so_far, Fits}
use Rattle.field_bounds.specs.Statements.{told_by, IsIssued}
use Rattle.field_bounds.specs.Central.{own, at_site, StatementRule, IsSound, cuts, given_between}
use Rattle.field_bounds.proofs.Lawful.{same_kind-true}
use Rattle.field_bounds.proofs.Refused.{answered, not_refused, accept_is_mine}
use Rattle.field_bounds.proofs.Sums.{sum_below-mono}
use Rattle.field_bounds.proofs.Traces.{own_here, own_there, sound_front, sound_fits}

-- ---- what left only grows

all_count : (r : Reply) → counts true r ≡ true
all_count Unsure = refl
all_count r = refl

-- only what a spare in doubt does rests on what took effect before it
sure_effect : (base : Base) (es before : List Effect) (c : Command) (r : Reply) → is_unsure r ≡ false
    → effect_of base es c r ≡ effect_of base before c r
sure_effect base es before (Spare to field kind want) Unsure h = cc
sure_effect base es before c r h = refl

uncounted : (effect : Option Effect) (es : List Effect) → with_effect false effect es ≡ es
uncounted None es = refl
uncounted (Some effect) es = refl

module _ (base : Base) (p : Option SiteNo → Bool) (f : ℕ) (k : Kind) where
  gifts_with : (counted : Bool) (effect : Option Effect) (es : List Effect) → gifts p f k es ≤ gifts p f k (with_effect counted effect es)
  gifts_with counted None es = omega arith
  gifts_with false (Some effect) es = omega arith
  gifts_with true (Some (Gives to field kind amount)) es = omega arith
  gifts_with true (Some effect) es = omega arith

  gifts_grow : (kept : Bool) (c : Command) (r : Reply) (es : List Effect) → gifts p f k es ≤ gifts p f k (after base kept c r es)
  gifts_grow kept c r es = gifts_with (counts kept r) (effect_of base es c r) es

  more_with : (few many : Bool) (effect : Option Effect) (less more : List Effect) → (few ≡ true → many ≡ true)
      → gifts p f k less ≤ gifts p f k more
      → gifts p f k (with_effect few effect less) ≤ gifts p f k (with_effect many effect more)
  more_with few many None less more counted h = h
  more_with true false (Some effect) less more counted h = cc (counted refl)
  more_with true true (Some (Gives to field kind amount)) less more counted h = omega (arith, h)
  more_with true true (Some effect) less more counted h = h
  more_with false many (Some effect) less more counted h = omega (arith, h, gifts_with many (Some effect) more)

  kept_more : (c : Command) (r : Reply) (less more : List Effect) → gifts p f k less ≤ gifts p f k more
      → gifts p f k (after base false c r less) ≤ gifts p f k (after base true c r more)
  kept_more c Unsure less more h =
      omega (
        arith,
        h,
        ap (gifts p f k) (uncounted (effect_of base less c Unsure) less),
        gifts_with true (effect_of base more c Unsure) more,
      )
  kept_more c r less more h =
      subst (λ (effect : Option Effect). gifts p f k (with_effect (counts false r) effect less) ≤ gifts p f k (after base true c r more))
      (sym (sure_effect base less more c r refl))
      (more_with (counts false r) (counts true r) (effect_of base more c r) less more (λ _. all_count r) h)

  kept_step : (c : Command) (r : Reply) (o : List Entry) → gifts p f k (effects base false o) ≤ gifts p f k (effects base true o)
      → gifts p f k (after base false c r (effects base (doubt_kept_before false r) o))
      ≤ gifts p f k (after base true c r (effects base (doubt_kept_before true r) o))
  kept_step c (Restarted epoch found) o before = kept_more c (Restarted epoch found) (effects base (says_doubt_kept found) o)
      (effects base (says_doubt_kept found) o) (omega arith)
  kept_step c r o before = kept_more c r (effects base false o) (effects base true o) before

  -- what is kept can only add to what was given
  gifts_kept : (o : List Entry) → gifts p f k (effects base false o) ≤ gifts p f k (effects base true o)
  gifts_kept [] = omega arith
  gifts_kept (e ∷ o) = kept_step e.command e.reply o (gifts_kept o)

  -- what was given with every doubt counted as kept is no less than with none
  pub any_kept : (kept : Bool) (o : List Entry) → gifts p f k (effects base false o) ≤ gifts p f k (effects base kept o)
  any_kept true o = gifts_kept o
  any_kept false o = omega arith

  gifts_after : (e : Entry) (o : List Entry) → gifts p f k (effects base false o) ≤ gifts p f k (effects base false (e ∷ o))
  gifts_after e o =
      omega (
        arith,
        gifts_grow false e.command e.reply (effects base (doubt_kept_before false e.reply) o),
        any_kept (doubt_kept_before false e.reply) o,
      )

left_grows : (schema : SchemaValue) (e : Entry) (t : List Entry) (p : Option SiteNo → Bool) (f : ℕ) (k : Kind) (s : ℕ)
    → gifts p f k (at_site schema t s) ≤ gifts p f k (at_site schema (e ∷ t) s)
left_grows schema e t p f k s =
    let of : List Entry → ℕ = λ o. gifts p f k (effects (fresh schema s) false o) in
    elim (cases_eq e.site.0 s) [
      | inl here ↦ omega (arith, ap of (own_here s e t here), gifts_after (fresh schema s) p f k e (own s t))
      | inr there ↦ omega (arith, ap of (own_there s e t there))
    ]

pub given_grows : (schema : SchemaValue) (e : Entry) (t : List Entry) (f : ℕ) (k : Kind) (from to : ℕ)
    → given_between schema t f k from to ≤ given_between schema (e ∷ t) f k from to
given_grows schema e t f k from to = omega (arith, left_grows schema e t (is_to to) f k from)

cut_grows : (schema : SchemaValue) (e : Entry) (t : List Entry) (f : ℕ) (k : Kind) (s : ℕ)
    → cut (fresh schema s) f k (at_site schema t s) ≤ cut (fresh schema s) f k (at_site schema (e ∷ t) s)
cut_grows schema e t f k s = omega (arith, left_grows schema e t is_for_good f k s)

-- what was given up is never less behind more entries
pub cuts_grow : (schema : SchemaValue) (later before : List Entry) (f : ℕ) (k : Kind)
    → cuts schema before f k ≤ cuts schema (later ++ before) f k
cuts_grow schema [] before f k = omega arith
cuts_grow schema (e ∷ later) before f k =
    omega (
      arith,
      cuts_grow schema later before f k,
      sum_below-mono schema.sites
          (λ s. cut (fresh schema s) f k (at_site schema (later ++ before) s))
          (λ s. cut (fresh schema s) f k (at_site schema (e ∷ (later ++ before)) s))
          (λ s. cut_grows schema e (later ++ before) f k s),
    )

-- ---- a statement tells no more than was given

some_same : {A : Type 0} (a b : A) → Some a ≡ Some b → a ≡ b
some_same a b h = cc

abbrev IsCovered : Place → Command → Reply → Statement → Type 0
IsCovered at c r told = told.total ≤ total_given at.base told.to.0 told.field.0 told.kind (after at.base false c r at.effects)

same_kind-refl : (k : Kind) → same_kind k k ≡ true
same_kind-refl Lower = refl
same_kind-refl Raise = refl

same_here : (n : ℕ) (k : Kind) (site : ℕ) → (eqb n n && same_kind k k && eqb site site) ≡ true
same_here n k site = rw (eq-eqb n n refl, same_kind-refl k, eq-eqb site site refl) refl

given_total : (m n : ℕ) → Given m ≡ Given n → m ≡ n
given_total m n h = cc

stated_total : (m n : ℕ) → Stated m ≡ Stated n → m ≡ n
stated_total m n h = cc

spared_parts : (a m b n : ℕ) → Spared a m ≡ Spared b n → (a ≡ b) × (m ≡ n)
spared_parts a m b n h = (cc, cc)

pub told_is_covered : (at : Place) (from : SiteNo) (c : Command) (r : Reply) (told : Statement) → Fits at c r → told_by from c r ≡ Some told
    → (told.from ≡ from) × IsCovered at c r told
told_is_covered at from (Give to field kind amount) (Given total) told fits h =
    let made : Statement = record { from = from; to = to; field = field; kind = kind; total = total } in
    let is = given_total _ _ (answered at (Give to field kind amount) (Given total) fits refl).1 in
    let on = same_here field.0 kind to.0 in
    let covers : total ≤ total_given at.base to.0 field.0 kind (Gives (Some to) field kind amount ∷ at.effects) =
    rw on (omega (arith, is)) in
    subst (λ (x : Statement). (x.from ≡ from) × IsCovered at (Give to field kind amount) (Given total) x) (some_same made told h) (
      refl,
      covers,
    )
told_is_covered at from (Restate to field kind) (Stated total) told fits h =
    let made : Statement = record { from = from; to = to; field = field; kind = kind; total = total } in
    let is = stated_total _ _ (answered at (Restate to field kind) (Stated total) fits refl).1 in
    let covers : total ≤ total_given at.base to.0 field.0 kind at.effects = omega (arith, is) in
    subst (λ (x : Statement). (x.from ≡ from) × IsCovered at (Restate to field kind) (Stated total) x) (some_same made told h) (
      refl,
      covers,
    )
told_is_covered at from (Spare to field kind want) (Spared amount total) told fits h =
    let made : Statement = record { from = from; to = to; field = field; kind = kind; total = total } in
    let spares = spare_of at field kind want in
    let is = spared_parts amount total spares (told_so_far at to field kind + spares)
    (answered at (Spare to field kind want) (Spared amount total) fits refl).1 in
    let on = same_here field.0 kind to.0 in
    let covers : total ≤ total_given at.base to.0 field.0 kind (Gives (Some to) field kind amount ∷ at.effects) =
    rw on (omega (arith, is.0, is.1)) in
    subst (λ (x : Statement). (x.from ≡ from) × IsCovered at (Spare to field kind want) (Spared amount total) x) (some_same made told h)
    (refl, covers)
told_is_covered at from c r told fits h = cc

kept_before_told : (from : SiteNo) (c : Command) (r : Reply) (told : Statement) → told_by from c r ≡ Some told
    → doubt_kept_before false r ≡ false
kept_before_told from (Give to field kind amount) (Given total) told h = refl
kept_before_told from (Restate to field kind) (Stated total) told h = refl
kept_before_told from (Spare to field kind want) (Spared amount total) told h = refl
kept_before_told from c r told h = cc

-- a statement that was issued tells no more than was given
pub issued_is_covered : (schema : SchemaValue) (t : List Entry) → IsSound schema t → (told : Statement) → IsIssued told t
    → told.total ≤ given_between schema t told.field.0 told.kind told.from.0 told.to.0
issued_is_covered schema [] sound told issued = absurd issued
issued_is_covered schema (e ∷ t) sound told (inr before) =
    omega (
      arith,
      issued_is_covered schema t (sound_front schema e t sound) told before,
      given_grows schema e t told.field.0 told.kind told.from.0 told.to.0,
    )
issued_is_covered schema (e ∷ t) sound told (inl now) =
    let s = e.site.0 in
    let base = fresh schema s in
    let told_now = told_is_covered (place schema s base (own s t)) e.site e.command e.reply told (sound_fits schema e t sound) now in
    let of : List Effect → ℕ = λ es. total_given base told.to.0 told.field.0 told.kind es in
    let last_was : of (after base false e.command e.reply (effects base false (own s t))) ≡ of (effects base false (e ∷ own s t)) =
    ap (λ (b : Bool). of (after base false e.command e.reply (effects base b (own s t))))
    (sym (kept_before_told e.site e.command e.reply told now)) in
    let here : of (effects base false (own s (e ∷ t))) ≡ of (effects base false (e ∷ own s t)) =
    ap (λ (o : List Entry). of (effects base false o)) (own_here s e t refl) in
    let from_here : s ≡ told.from.0 = ap (λ (x : SiteNo). x.0) (sym told_now.0) in
    subst (λ (from : ℕ). told.total ≤ given_between schema (e ∷ t) told.field.0 told.kind from told.to.0) from_here
    (omega (arith, told_now.1, last_was, here))

-- ---- what was accepted was told

-- of f, k and a site, no more than a bound is accepted
abbrev pub AcceptsWithin : ℕ → ℕ → ℕ → Kind → Option Effect → Type 0
AcceptsWithin bound from f k (Some (Accepts site field kind total)) = site.0 ≡ from → field.0 ≡ f → kind ≡ k → total ≤ bound
AcceptsWithin bound from f k effect = Unit {0}

module _ (base : Base) (bound from f : ℕ) (k : Kind) where
  merged : (site : SiteNo) (field : FieldNo) (kind : Kind) (total before : ℕ) → before ≤ bound
      → (site.0 ≡ from → field.0 ≡ f → kind ≡ k → total ≤ bound)
      → cond (eqb field.0 f && same_kind kind k && eqb site.0 from) (max total before) before ≤ bound
  merged site field kind total before low within =
      elim (cases_Bool (eqb field.0 f && same_kind kind k && eqb site.0 from)) as
      (λ _. cond (eqb field.0 f && same_kind kind k && eqb site.0 from) (max total before) before ≤ bound) [
        | inl on ↦
            let parts = and_parts (eqb field.0 f && same_kind kind k) (eqb site.0 from) on in
            let both = and_parts (eqb field.0 f) (same_kind kind k) parts.0 in
            let small = within (eqb-true _ _ parts.1) (eqb-true _ _ both.0) (same_kind-true _ _ both.1) in
            rw on (omega (arith, small))
        | inr off ↦ rw off low
      ]

  accepted_after : (counted : Bool) (effect : Option Effect) (es : List Effect) → total_accepted base from f k es ≤ bound
      → AcceptsWithin bound from f k effect
      → total_accepted base from f k (with_effect counted effect es) ≤ bound
  accepted_after counted None es low within = low
  accepted_after false (Some effect) es low within = low
  accepted_after true (Some (Accepts site field kind total)) es low within =
      merged site field kind total (total_accepted base from f k es) low within
  accepted_after true (Some effect) es low within = low

module _ (schema : SchemaValue) (e : Entry) (t : List Entry) (sound : IsSound schema (e ∷ t)) (from f : ℕ) (k : Kind) where
  bounded : (told : Statement) → IsIssued told t → told.to.0 ≡ e.site.0 → told.from.0 ≡ from → told.field.0 ≡ f → told.kind ≡ k
      → told.total ≤ given_between schema (e ∷ t) f k from e.site.0
  bounded told issued mine from_is field_is kind_is =
      let covered = issued_is_covered schema t (sound_front schema e t sound) told issued in
      let same : given_between schema t told.field.0 told.kind told.from.0 told.to.0 ≡ given_between schema t f k from e.site.0 = cc in
      omega (arith, covered, same, given_grows schema e t f k from e.site.0)

  abbrev here : Place
  here = place schema e.site.0 (fresh schema e.site.0) (own e.site.0 t)

  accepts_within : (c : Command) (r : Reply) (base : Base) (es : List Effect) → Fits here c r → StatementRule t c r
      → AcceptsWithin (given_between schema (e ∷ t) f k from e.site.0) from f k (effect_of base es c r)
  accepts_within (Accept told) (Accepted gain) base es fits issued =
      bounded told issued (accept_is_mine here told (not_refused here (Accept told) (Accepted gain) fits refl))
  accepts_within (Accept told) Unsure base es fits issued =
      bounded told issued (accept_is_mine here told (not_refused here (Accept told) Unsure fits refl))
  accepts_within c Unsure base es fits rule = tt
  accepts_within c r base es fits rule = tt

-- no site has accepted more than it was given, whatever is kept of what is in doubt
pub accepted_is_given : (schema : SchemaValue) (t : List Entry) → IsSound schema t → (kept : Bool) (f : ℕ) (k : Kind) (from to : ℕ)
    → total_accepted (fresh schema to) from f k (effects (fresh schema to) kept (own to t)) ≤ given_between schema t f k from to
accepted_is_given schema [] sound kept f k from to = omega arith
accepted_is_given schema (e ∷ t) sound kept f k from to =
    let front = sound_front schema e t sound in
    let most = given_between schema (e ∷ t) f k from in
    elim (cases_eq e.site.0 to) [
      | inl here ↦
          let s = e.site.0 in
          let IsLow : ℕ → List Entry → Type 0 = λ site o. total_accepted (fresh schema site) from f k (effects (fresh schema site) kept o)
          ≤ most site in
          let was = effects (fresh schema s) (doubt_kept_before kept e.reply) (own s t) in
          let before = accepted_is_given schema t front (doubt_kept_before kept e.reply) f k from s in
          let low : total_accepted (fresh schema s) from f k was ≤ most s = omega (arith, before, given_grows schema e t f k from s) in
          let step : IsLow s (e ∷ own s t) =
          accepted_after (fresh schema s) (most s) from f k (counts kept e.reply) (effect_of (fresh schema s) was e.command e.reply) was low
          (accepts_within schema e t sound from f k e.command e.reply (fresh schema s) was (sound_fits schema e t sound) sound.statements.1)
          in
          subst (λ (x : ℕ). IsLow x (own x (e ∷ t))) here (subst (λ (o : List Entry). IsLow s o) (sym (own_here s e t refl)) step)
      | inr there ↦
          let before = accepted_is_given schema t front kept f k from to in
          let low : total_accepted (fresh schema to) from f k (effects (fresh schema to) kept (own to t)) ≤ most to =
          omega (arith, before, given_grows schema e t f k from to) in
          subst (λ (o : List Entry). total_accepted (fresh schema to) from f k (effects (fresh schema to) kept o) ≤ most to)
          (sym (own_there to e t there)) low
    ]
