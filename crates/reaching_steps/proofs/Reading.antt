-- A trace is read from its oldest entry on.
use Rattle.std.proofs.Common.{◌≡◌, ◌≢◌, ℕ, suc, ◌+◌, ◌-◌, ◌<◌, ◌≤◌, Bool, true, false, not, cond, eqb, List, [], ◌∷◌, ◌++◌, take, drop, reverse, length, get_or, refl, sym, ◌∙◌, ap, subst, arith, add-one, Some, None}
use Rattle.std.specs.Prelude.{Option}
use Rattle.std.proofs.Math.Seq.{take-suc, take-length}
use Rattle.std.proofs.lemmas.Bool.{eq-eqb, ne_eqb}
use Rattle.std.proofs.lemmas.List.{reverse-append, take-append-drop, drop_more, length-drop}
use Rattle.field_bounds.specs.declared.kind.Kind.{Kind}
use Rattle.field_bounds.specs.declared.id.SiteNo.{SiteNo}
use Rattle.field_bounds.specs.declared.id.FieldNo.{FieldNo}
use Rattle.field_bounds.specs.declared.entry.Command.{Command}
use Rattle.field_bounds.specs.declared.entry.Command.TheVariants.{Spare}
use Rattle.field_bounds.specs.declared.entry.Reply.{Reply}
use Rattle.field_bounds.specs.declared.entry.Reply.TheVariants.{Unsure}
use Rattle.field_bounds.specs.declared.entry.Entry.{Entry}
use Rattle.field_bounds.specs.declared.effect.Effect.{Effect}
use Rattle.field_bounds.specs.declared.effect.Effect.TheVariants.{Gives}
use Rattle.field_bounds.specs.Schema.{SchemaValue}
use Rattle.field_bounds.specs.Effects.{Base, fresh, share, spare_amount, counts, effect_of, with_effect, after, doubt_kept_before, effects, doubt_kept_in, wanted_by}
use Rattle.field_bounds.specs.Owed.{is_unsure}
use Rattle.field_bounds.specs.Central.{own, at_site, IsSound}
use Rattle.field_bounds.proofs.Lawful.{IsLawful}
use Rattle.field_bounds.proofs.Runs.{run_is_lawful}
use Rattle.field_bounds.proofs.Traces.{sound_front}
use Rattle.reaching_steps.specs.declared.standing.FieldHoldings.{FieldHoldings}
use Rattle.reaching_steps.specs.FieldHoldings.{Tells, Stands, Notes}
use Rattle.reaching_steps.proofs.Standings.{notes_give}
use Rattle.reaching_steps.specs.Told.{is_elsewhere, Reads, ReadsOwn, Puts}

-- ---- one entry of a site

without : (found : Option Effect) (es : List Effect) → with_effect false found es ≡ es
without None es = refl
without (Some e) es = refl

-- it doesn't count
uncounted : (base : Base) (kept : Bool) (c : Command) (r : Reply) (es : List Effect) → counts kept r ≡ false → after base kept c r es ≡ es
uncounted base kept c r es off = rw off (without (effect_of base es c r) es)

pub own_uncounted : (schema : SchemaValue) (s f : ℕ) (had : FieldHoldings) (e : Entry) (kept : Bool) → counts kept e.reply ≡ false
    → ReadsOwn schema s f had e kept had
unfolding ReadsOwn
own_uncounted schema s f had e kept off = λ es lawful next was. rw (uncounted (fresh schema s) kept e.command e.reply es off) was

-- what a spare in doubt gave on another field
unsure_only : (r : Reply) → is_unsure r ≡ true → r ≡ Unsure
unsure_only Unsure h = refl
unsure_only r h = cc

pushed_none : (b : Bool) (n m : ℕ) → not b ≡ true → eqb n m ≡ b → eqb n m ≡ false
pushed_none true n m h is = cc
pushed_none false n m h is = is

gives_elsewhere : (f : ℕ) (had : FieldHoldings) (to : Option SiteNo) (field : FieldNo) (k : Kind) (n : ℕ) → eqb field.0 f ≡ false
    → Notes f had (Gives to field k n) had
gives_elsewhere f had to field k n off =
    notes_give f had had.gifts to field k n (rw off refl)

spared_off : (f : ℕ) (schema : SchemaValue) (base : Base) (kept : Bool) (c : Command) (es : List Effect) (had : FieldHoldings)
    → is_elsewhere f (wanted_by c) ≡ true
    → IsLawful schema base (after base kept c Unsure es) → Stands f had es → Stands f had (after base kept c Unsure es)
unfolding Notes
spared_off f schema base false (Spare to field k want) es had off next was = was
spared_off f schema base true (Spare to field k want) es had off next was =
    gives_elsewhere f had (Some to) field k (spare_amount (share base field.0 k es) want)
    (pushed_none (eqb field.0 f) field.0 f off refl) schema base es next was
spared_off f schema base kept c es had off next was = cc

pub own_elsewhere : (schema : SchemaValue) (s f : ℕ) (had : FieldHoldings) (e : Entry) (kept : Bool) → is_unsure e.reply ≡ true
    → is_elsewhere f (wanted_by e.command) ≡ true → ReadsOwn schema s f had e kept had
unfolding ReadsOwn
own_elsewhere schema s f had e kept unsure off = λ es lawful next was.
    let is = unsure_only e.reply unsure in
    rw is (spared_off f schema (fresh schema s) kept e.command es had off (rw is at next) was)

-- an entry takes nothing back
pub no_shorter : (b : Bool) (found : Option Effect) (es : List Effect) → length es ≤ length (with_effect b found es)
no_shorter b None es = omega arith
no_shorter true (Some d) es = omega arith
no_shorter false (Some d) es = omega arith

-- an effect an entry, at most
pub effects_few : (base : Base) (kept : Bool) (o : List Entry) → length (effects base kept o) ≤ length o
effects_few base kept [] = omega arith
effects_few base kept (e ∷ o) =
    let es = effects base (doubt_kept_before kept e.reply) o in
    let more = one_more (counts kept e.reply) (effect_of base es e.command e.reply) es in
    omega (arith, effects_few base (doubt_kept_before kept e.reply) o, more)
  where
    one_more : (b : Bool) (found : Option Effect) (es : List Effect) → length (with_effect b found es) ≤ suc (length es)
    one_more b None es = omega arith
    one_more true (Some d) es = omega arith
    one_more false (Some d) es = omega arith

pub own_few : (s : ℕ) (t : List Entry) → length (own s t) ≤ length t
own_few s [] = omega arith
own_few s (e ∷ t) = by (eqb e.site.0 s) (own_few s t)
  where
    by : (b : Bool) → length (own s t) ≤ length t → length (cond b (e ∷ own s t) (own s t)) ≤ suc (length t)
    by true h = omega (arith, h)
    by false h = omega (arith, h)

pub site_few : (schema : SchemaValue) (s : ℕ) (t : List Entry) → length (at_site schema t s) ≤ length t
site_few schema s t = omega (arith, effects_few (fresh schema s) false (own s t), own_few s t)

-- it does nothing
pub own_nothing : (schema : SchemaValue) (s f : ℕ) (had : FieldHoldings) (e : Entry) (kept : Bool)
    → ((es : List Effect) → IsLawful schema (fresh schema s) es → Tells f had es
    → None ≡ effect_of (fresh schema s) es e.command e.reply) → ReadsOwn schema s f had e kept had
unfolding ReadsOwn Stands
own_nothing schema s f had e kept none = λ es lawful next was few.
    let here = was (omega (arith, few, no_shorter (counts kept e.reply) (effect_of (fresh schema s) es e.command e.reply) es)) in
    rw (← none es lawful here) here

-- it does this
pub own_noted : (schema : SchemaValue) (s f : ℕ) (had more : FieldHoldings) (e : Entry) (kept : Bool) (d : Effect) → counts kept e.reply ≡ true
    → ((es : List Effect) → IsLawful schema (fresh schema s) es → Tells f had es
    → Some d ≡ effect_of (fresh schema s) es e.command e.reply) → Notes f had d more → ReadsOwn schema s f had e kept more
unfolding ReadsOwn Notes Stands
own_noted schema s f had more e kept d on some notes = λ es lawful next was few.
    let base = fresh schema s in
    let here = was (omega (arith, few, no_shorter (counts kept e.reply) (effect_of base es e.command e.reply) es)) in
    let is : after base kept e.command e.reply es ≡ d ∷ es = rw (on, ← some es lawful here) refl in
    rw is (notes schema base es (rw is at next) was (rw is at few))

-- ---- one that ends no doubt

sure_counts : (r : Reply) → is_unsure r ≡ false → counts false r ≡ true
sure_counts Unsure h = cc
sure_counts r h = refl

pub unsure_never : {A : Type 0} (b : Bool) → b ≡ false → b ≡ true → A
unsure_never true h g = cc
unsure_never false h g = cc

pub puts_unsure : (f : ℕ) (had : FieldHoldings) (e : Entry) → is_unsure e.reply ≡ true → Puts f had e had
unfolding Puts
puts_unsure f had e unsure = λ schema base es next was.
    rw (uncounted base false e.command e.reply es (rw (unsure_only e.reply unsure) refl)) was

pub puts_nothing : (f : ℕ) (had : FieldHoldings) (e : Entry)
    → ((base : Base) (es : List Effect) → None ≡ effect_of base es e.command e.reply) → Puts f had e had
unfolding Puts
puts_nothing f had e none = λ schema base es next was. rw (← none base es) was

pub puts_noted : (f : ℕ) (had more : FieldHoldings) (e : Entry) (d : Effect) → is_unsure e.reply ≡ false
    → ((base : Base) (es : List Effect) → Some d ≡ effect_of base es e.command e.reply) → Notes f had d more → Puts f had e more
unfolding Puts Notes
puts_noted f had more e d sure some notes = λ schema base es next was.
    let is : after base false e.command e.reply es ≡ d ∷ es = rw (sure_counts e.reply sure, ← some base es) refl in
    rw is (notes schema base es (rw is at next) was)

-- ---- one entry of the trace

-- an entry of another site
pub reads_there : (schema : SchemaValue) (s f : ℕ) (had more : FieldHoldings) (e : Entry) (later : List Entry) → e.site.0 ≢ s → more ≡ had
    → Reads schema s f had e later more
unfolding Reads
reads_there schema s f had more e later apart same = λ t lawful next was.
    rw (same, ne_eqb e.site.0 s apart) (rw (ne_eqb e.site.0 s apart) at was)

-- an entry of the site
pub reads_here : (schema : SchemaValue) (s f : ℕ) (had more : FieldHoldings) (e : Entry) (later : List Entry) → e.site.0 ≡ s
    → ReadsOwn schema s f had e (doubt_kept_in s later) more → Reads schema s f had e later more
unfolding Reads ReadsOwn
reads_here schema s f had more e later mine did = λ t lawful next was.
    let on = eq-eqb e.site.0 s mine in
    rw on (did (effects (fresh schema s) (doubt_kept_before (doubt_kept_in s later) e.reply) (own s t)) (rw on at lawful) (rw on at next)
    (rw on at was))

-- ---- the fronts of a sound trace are sound

sound_drop : (schema : SchemaValue) (a b : List Entry) → IsSound schema (a ++ b) → IsSound schema b
sound_drop schema [] b sound = sound
sound_drop schema (e ∷ a) b sound = sound_drop schema a b (sound_front schema e (a ++ b) sound)

pub lawful_front : (schema : SchemaValue) (s i : ℕ) (trace t : List Entry) (kept : Bool) → s < schema.sites
    → reverse trace ≡ t → IsSound schema t
    → IsLawful schema (fresh schema s) (effects (fresh schema s) kept (own s (reverse (take i trace))))
lawful_front schema s i trace t kept below is sound =
    let parts : reverse trace ≡ reverse (drop i trace) ++ reverse (take i trace) =
    ap (λ (l : List Entry). reverse l) (sym (take-append-drop i trace)) ∙ reverse-append (take i trace) (drop i trace) in
    let front = sound_drop schema (reverse (drop i trace)) (reverse (take i trace))
    (subst (λ (l : List Entry). IsSound schema l) (sym is ∙ parts) sound) in
    run_is_lawful schema s (fresh schema s) (own s (reverse (take i trace))) (front.runs s below) kept

-- what took effect at a site by the first i entries of a trace
abbrev pub front_at : SchemaValue → ℕ → List Entry → ℕ → List Effect
front_at schema s trace i = effects (fresh schema s) (doubt_kept_in s (drop i trace)) (own s (reverse (take i trace)))

pub reads_so : (schema : SchemaValue) (s f i : ℕ) (trace t : List Entry) (d : Entry) (had more : FieldHoldings) → i < length trace
    → s < schema.sites → reverse trace ≡ t → IsSound schema t
    → Reads schema s f had (get_or trace i d) (drop (i + 1) trace) more
    → Stands f had (front_at schema s trace i) → Stands f more (front_at schema s trace (i + 1))
unfolding Reads
reads_so schema s f i trace t d had more below inside is sound reads was =
    let next : reverse (take (i + 1) trace) ≡ get_or trace i d ∷ reverse (take i trace) =
    rw (add-one, take-suc trace i d below) (reverse-append (take i trace) (get_or trace i d ∷ [])) in
    let first = drop_more trace i d below in
    rw next (reads (reverse (take i trace))
    (rw first at (lawful_front schema s i trace t (doubt_kept_in s (drop i trace)) inside is sound))
    (rw next at (lawful_front schema s (i + 1) trace t (doubt_kept_in s (drop (i + 1) trace)) inside is sound))
    (rw first at was))

rest_is : (trace : List Entry) (m : ℕ) → take (length trace - m) (drop m trace) ≡ drop m trace
rest_is trace m = ap (λ (n : ℕ). take n (drop m trace)) (sym (length-drop m trace)) ∙ take-length (drop m trace)

pub reads_on : (schema x : SchemaValue) → x ≡ schema → (s f i : ℕ) (trace t : List Entry) (d : Entry) (had more : FieldHoldings)
    → i < length trace → s < schema.sites → reverse trace ≡ t → IsSound schema t
    → Reads x s f had (get_or trace i d) (take (length trace - (i + 1)) (drop (i + 1) trace)) more
    → Stands f had (front_at schema s trace i) → Stands f more (front_at schema s trace (i + 1))
reads_on schema x same s f i trace t d had more below inside is sound read was =
    reads_so schema s f i trace t d had more below inside is sound (rw (same, rest_is trace (i + 1)) at read) was
