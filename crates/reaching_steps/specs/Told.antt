-- What took effect at the sites, read from a trace (this project).
use Rattle.std.specs.Prelude.{◌≡◌, ℕ, ◌<◌, ◌==◌, Bool, true, false, not, List, ◌∷◌, length, get_or, reverse, take, drop, Option, Some, None}
use Rattle.field_bounds.specs.declared.kind.Kind.{Kind}
use Rattle.field_bounds.specs.declared.id.SiteNo.{SiteNo}
use Rattle.field_bounds.specs.declared.id.FieldNo.{FieldNo}
use Rattle.field_bounds.specs.declared.entry.Reply.{Reply}
use Rattle.field_bounds.specs.declared.entry.Entry.{Entry}
use Rattle.field_bounds.specs.declared.effect.Effect.{Effect}
use Rattle.field_bounds.specs.Schema.{SchemaValue}
use Rattle.field_bounds.specs.Effects.{Base, doubt_kept_in, effects, after, fresh, is_to, is_for_good}
use Rattle.field_bounds.specs.Central.{own, at_site}
use Rattle.field_bounds.specs.Lawful.{IsLawful}
use Rattle.field_bounds.specs.Shape.{answered, restarted, in_doubt, stays_down, refused, shape}
use Rattle.reaching_steps.specs.declared.standing.FieldHoldings.{FieldHoldings}
use Rattle.reaching_steps.specs.FieldHoldings.{Stands}
use Rattle.world_steps.specs.View.{WorldValue, trace_of, Answers}
use Rattle.world_steps.specs.declared.step.WorldStep.{WorldStep}
use Rattle.world_steps.specs.declared.step.StepReply.{StepReply}
use Rattle.world_steps.specs.declared.step.StepReply.TheVariants.{Made, NoStatement}
use Rattle.reaching_steps.specs.declared.totals.Receivers.{Receivers}
use Rattle.reaching_steps.specs.declared.totals.Receivers.TheVariants.{OneSite, ForGood, Everyone}

-- Whether what is spared is of another field than f.
abbrev pub is_elsewhere : ℕ → Option (FieldNo × Kind × ℕ) → Bool
is_elsewhere f None = false
is_elsewhere f (Some wanted) = not (wanted.0.0 == f)

-- What is kept of site s on field f tells of an entry more, where kept says whether what stood in doubt was kept.
unfoldable pub ReadsOwn : SchemaValue → ℕ → ℕ → FieldHoldings → Entry → Bool → FieldHoldings → Type 0
ReadsOwn schema s f had e kept more =
    (es : List Effect) → IsLawful schema (fresh schema s) es
    → IsLawful schema (fresh schema s) (after (fresh schema s) kept e.command e.reply es) → Stands f had es
    → Stands f more (after (fresh schema s) kept e.command e.reply es)

-- The same of an entry that ends no doubt, on any base.
unfoldable pub Puts : ℕ → FieldHoldings → Entry → FieldHoldings → Type 0
Puts f had e more =
    (schema : SchemaValue) (base : Base) (es : List Effect) → IsLawful schema base (after base false e.command e.reply es)
    → Stands f had es → Stands f more (after base false e.command e.reply es)

-- What took effect at site s before an entry is told, and so it is with the entry.
unfoldable pub Reads : SchemaValue → ℕ → ℕ → FieldHoldings → Entry → List Entry → FieldHoldings → Type 0
Reads schema s f had e later more =
    (t : List Entry) → IsLawful schema (fresh schema s) (effects (fresh schema s) (doubt_kept_in s (e ∷ later)) (own s t))
    → IsLawful schema (fresh schema s) (effects (fresh schema s) (doubt_kept_in s later) (own s (e ∷ t)))
    → Stands f had (effects (fresh schema s) (doubt_kept_in s (e ∷ later)) (own s t))
    → Stands f more (effects (fresh schema s) (doubt_kept_in s later) (own s (e ∷ t)))

-- At each site one more entry is told.
abbrev pub AllRead : SchemaValue → ℕ → List FieldHoldings → Entry → List Entry → List FieldHoldings → Type 0
AllRead schema f rows e later more =
    (s : ℕ) (d : FieldHoldings) → s < length rows → Reads schema s f (get_or rows s d) e later (get_or more s d)

-- At each site the first so many entries of a trace, which has the oldest first, are told, and what comes later of doubts.
unfoldable pub AreReadIn : SchemaValue → ℕ → List Entry → ℕ → List FieldHoldings → Type 0
AreReadIn schema f trace i rows =
    (s : ℕ) (d : FieldHoldings) → s < length rows
    → Stands f (get_or rows s d) (effects (fresh schema s) (doubt_kept_in s (drop i trace)) (own s (reverse (take i trace))))

-- Whether a reply tells what became of what stood in doubt.
abbrev pub ends_doubt : Reply → Bool
ends_doubt r = elim (shape r) [ answered ↦ false | restarted _ _ ↦ true | in_doubt ↦ false | stays_down ↦ false | refused _ ↦ false ]

-- For each site, what took effect there.
unfoldable pub AllTold : SchemaValue → ℕ → List Entry → List FieldHoldings → Type 0
AllTold schema f t rows = (s : ℕ) (d : FieldHoldings) → s < length rows → Stands f (get_or rows s d) (at_site schema t s)

-- To whom rights left: to one site, for good, or to anyone.
abbrev pub passes : Receivers → Option SiteNo → Bool
passes (OneSite site) = is_to site.0
passes ForGood = is_for_good
passes Everyone = λ _. true

-- Where a trial is whole, its table tells what took effect at each site of its world on field f.
abbrev pub IsTrial : WorldValue → ℕ → List FieldHoldings → Bool → Type 0
IsTrial w f rows whole = whole ≡ true → (length rows ≡ w.schema.sites) × AllTold w.schema f (trace_of w) rows

-- A table tells what took effect at each site of a world on field f.
abbrev pub IsToldBy : WorldValue → ℕ → List FieldHoldings → Type 0
IsToldBy w f rows = (length rows ≡ w.schema.sites) × AllTold w.schema f (trace_of w) rows

-- The entry that was made, if any, is of one of so many sites.
abbrev pub IsMadeWithin : StepReply → ℕ → Type 0
IsMadeWithin (Made entry) sites = entry.site.0 < sites
IsMadeWithin NoStatement sites = Unit {0}

-- Where a table told what took effect at each site before a step, it does so after it.
unfoldable pub Renews : WorldValue → ℕ → StepReply → List FieldHoldings → List FieldHoldings → Type 0
Renews later f reply rows more =
    (before : WorldValue) (step : WorldStep) → Answers reply before step later → later.schema ≡ before.schema
    → (length rows ≡ before.schema.sites) × AllTold before.schema f (trace_of before) rows
    → (length more ≡ later.schema.sites) × AllTold later.schema f (trace_of later) more
