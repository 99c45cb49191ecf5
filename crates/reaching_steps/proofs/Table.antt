-- The table of a trial.
use Rattle.std.proofs.Common.{◌≡◌, ℕ, ◌<◌, ◌≤◌, Bool, true, List, ◌∷◌, length, get_or, slice_set, reverse, refl, sym, ◌∙◌, ap, subst, arith, inl, inr}
use Rattle.std.proofs.lemmas.Bool.{cases_eq}
use Rattle.std.proofs.lemmas.List.{length-reverse, length-set, get_or-set_same, get_or-set_other}
use Rattle.field_bounds.specs.declared.entry.Entry.{Entry}
use Rattle.field_bounds.specs.Schema.{SchemaValue}
use Rattle.field_bounds.specs.Central.{at_site}
use Rattle.field_bounds.proofs.Traces.{own_there}
use Rattle.world_steps.specs.View.{WorldValue, trace_of}
use Rattle.kept_state.specs.Luck.{Lucky, entries}
use Rattle.world_steps.specs.View.{Answers}
use Rattle.world_steps.specs.declared.step.WorldStep.{WorldStep}
use Rattle.world_steps.specs.declared.step.StepReply.{StepReply}
use Rattle.world_steps.specs.declared.step.StepReply.TheVariants.{Made, NoStatement}
use Rattle.reaching_steps.specs.declared.standing.FieldHoldings.{FieldHoldings}
use Rattle.reaching_steps.specs.FieldHoldings.{Tells, Stands}
use Rattle.reaching_steps.proofs.Standings.{told_so}
use Rattle.reaching_steps.proofs.Reading.{site_few}
use Rattle.reaching_steps.specs.Told.{AllTold, IsTrial, Renews}

-- one entry more, by which its site stands so
pub told_next : (schema : SchemaValue) (f : ℕ) (t u : List Entry) (e : Entry) (rows : List FieldHoldings) (v : FieldHoldings) → u ≡ e ∷ t
    → Stands f v (at_site schema u e.site.0)
    → AllTold schema f t rows → AllTold schema f u (slice_set rows e.site.0 v)
unfolding AllTold
told_next schema f t u e rows v is here told = λ s d below.
    let inside : s < length rows = omega (arith, below, length-set rows e.site.0 v) in
    elim (cases_eq e.site.0 s) [
      | inl same ↦ rw (← same, get_or-set_same rows e.site.0 v d (rw same inside)) here
      | inr other ↦
          rw (get_or-set_other rows e.site.0 s v d (λ h. other (sym h)), is, own_there s e t other) (told s d inside)
    ]

-- what a whole table tells of a site
pub told_of : {w v : WorldValue} (f : ℕ) (rows : List FieldHoldings) {whole : Bool} {s i : ℕ} {x : FieldHoldings} (trace : List Entry) → w ≡ v
    → IsTrial v f rows whole → whole ≡ true → s < w.schema.sites → i ≡ s → x ≡ get_or rows i x
    → length trace ≤ 18446744073709551615 → reverse trace ≡ trace_of v → Tells f x (at_site w.schema (trace_of w) s)
unfolding AllTold
told_of {w} {v} f rows {s} {x} trace same trial is below at found short read =
    let all = trial is in
    let count : w.schema.sites ≡ length rows = ap (λ (y : WorldValue). y.schema.sites) same ∙ sym all.0 in
    let few : length (trace_of v) ≤ 18446744073709551615 = omega (arith, short, length-reverse trace, ap (λ (l : List Entry). length l) read) in
    rw same (told_so f x (at_site v.schema (trace_of v) s) (rw (found ∙ ap (λ (n : ℕ). get_or rows n x) at) (all.1 s x (omega (arith, below, count))))
    (omega (arith, few, site_few v.schema s (trace_of v))))

-- what a step made is the newest entry
pub made_is : (w v : WorldValue) (step : WorldStep) (e : Entry) → Answers (Made e) w step v → trace_of v ≡ e ∷ trace_of w
made_is w v step e is = ap (λ (l : List Lucky). entries l) is

none_is : (w v : WorldValue) (step : WorldStep) → Answers NoStatement w step v → trace_of v ≡ trace_of w
none_is w v step is = ap (λ (l : List Lucky). entries l) is.1

pub renews_none : (v : WorldValue) (f : ℕ) (rows : List FieldHoldings) → Renews v f NoStatement rows rows
unfolding Renews
renews_none v f rows = λ w step is same told. (rw same told.0, rw (none_is w v step is, same) told.1)

pub renews_made : (v : WorldValue) (f : ℕ) (e : Entry) (rows more : List FieldHoldings) (x : FieldHoldings)
    → Stands f x (at_site v.schema (trace_of v) e.site.0) → more ≡ slice_set rows e.site.0 x
    → Renews v f (Made e) rows more
unfolding Renews
renews_made v f e rows more x here set = λ w step is same told. (
  rw (set, length-set rows e.site.0 x, told.0, same) refl,
  rw set (told_next v.schema f (trace_of w) (trace_of v) e rows x (made_is w v step e is) here
      (subst (λ (y : SchemaValue). AllTold y f (trace_of w) rows) (sym same) told.1)),
)

pub renewed : (w v : WorldValue) (f : ℕ) (step : WorldStep) (reply : StepReply) (rows more : List FieldHoldings) (whole : Bool)
    → Answers reply w step v → v.schema ≡ w.schema
    → Renews v f reply rows more → IsTrial w f rows whole → IsTrial v f more whole
unfolding Renews
renewed w v f step reply rows more whole is same renews trial = λ h. renews w step is same (trial h)

-- beyond the table there is no site
pub renews_past : (v : WorldValue) (f : ℕ) (e : Entry) (rows : List FieldHoldings) → length rows ≤ e.site.0 → e.site.0 < v.schema.sites
    → Renews v f (Made e) rows rows
unfolding Renews
renews_past v f e rows past below = λ w step is same told.
    absurd (let count : v.schema.sites ≡ length rows = ap (λ (y : SchemaValue). y.sites) same ∙ sym told.0 in
    omega (arith, past, below, count))
