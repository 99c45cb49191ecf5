-- A sound trace grows by one entry at a time: for a caller that keeps one site for each site of a schema.
use Rattle.std.proofs.Common.{ℕ, ◌<◌, List, [], ◌∷◌, refl, sym, subst, inl, inr}
use Rattle.std.proofs.lemmas.Bool.{cases_eq}
use Rattle.field_bounds.specs.declared.entry.Entry.{Entry}
use Rattle.field_bounds.specs.Schema.{SchemaValue}
use Rattle.field_bounds.specs.Effects.{fresh}
use Rattle.field_bounds.specs.Owed.{place, Fits, IsRun}
use Rattle.field_bounds.specs.Central.{own, StatementRule, IsSound}
use Rattle.field_bounds.proofs.Traces.{own_here, own_there}

-- where nothing was asked, the trace is sound
pub sound_empty : (schema : SchemaValue) → IsSound schema []
sound_empty schema = record { sites = tt; statements = tt; runs = λ s below. tt }

run_more : (schema : SchemaValue) (e : Entry) (t : List Entry) → IsSound schema t → e.site.0 < schema.sites
    → Fits (place schema e.site.0 (fresh schema e.site.0) (own e.site.0 t)) e.command e.reply
    → (s : ℕ) → s < schema.sites → IsRun schema s (fresh schema s) (own s (e ∷ t))
run_more schema e t sound inside fits s below =
    elim (cases_eq e.site.0 s) [
      | inl same ↦
          subst (λ (x : ℕ). IsRun schema x (fresh schema x) (own x (e ∷ t))) same
          (subst (λ (o : List Entry). IsRun schema e.site.0 (fresh schema e.site.0) o) (sym (own_here e.site.0 e t refl))
          (sound.runs e.site.0 inside, fits))
      | inr apart ↦ subst (λ (o : List Entry). IsRun schema s (fresh schema s) o) (sym (own_there s e t apart)) (sound.runs s below)
    ]

-- one more entry, whose reply is owed after its own site's entries alone, and whose statement was issued before where it
-- accepts one, leaves it sound
pub sound_more : (schema : SchemaValue) (e : Entry) (t : List Entry) → IsSound schema t → e.site.0 < schema.sites
    → StatementRule t e.command e.reply → Fits (place schema e.site.0 (fresh schema e.site.0) (own e.site.0 t)) e.command e.reply
    → IsSound schema (e ∷ t)
sound_more schema e t sound inside rule fits =
    record { sites = (sound.sites, inside); statements = (sound.statements, rule); runs = run_more schema e t sound inside fits }
