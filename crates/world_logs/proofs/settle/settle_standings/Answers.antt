use Rattle.std.proofs.Common.{◌≡◌, ℕ, List, Some, length, map, sym, ◌∙◌, subst}
use Rattle.std.specs.List.{slice_get}
use Rattle.std.proofs.lemmas.List.{length-map}
use Rattle.field_bounds.specs.declared.field.FieldSpec.{FieldSpec}
use Rattle.field_bounds.specs.Schema.{SchemaValue, spec_value}
use Rattle.field_bounds.specs.Parts.{field_at}
use Rattle.kept_records.specs.declared.record.Record.{Record}
use Rattle.world_logs.specs.declared.field_state.FieldState.{FieldState}
use Rattle.world_logs.specs.States.{AreStates, with_state, Settles}
use Rattle.world_logs.proofs.Settled.{settles_at, settled_is_faultless}
use Rattle.world_logs.proofs.Gathered.{gathered}
use Rattle.world_logs.proofs.settle.settle_standings.Goals as goal

-- the schema of fields that were made of the states
made_settles : (schema : SchemaValue) (logs : List (List Record)) (states told : List FieldState) (sites : ℕ) (specs : List FieldSpec)
    → told ≡ states → AreStates schema logs states → sites ≡ schema.sites → length specs ≡ length schema.fields
    → ((f : ℕ) (state : FieldState) → slice_get told f ≡ Some state
    → slice_get (map spec_value specs) f ≡ Some (with_state (field_at schema f) state))
    → Settles schema logs (record { sites = sites; fields = map spec_value specs })
made_settles schema logs states told sites specs same are count few each =
    settles_at schema logs told (record { sites = sites; fields = map spec_value specs }) count (length-map specs spec_value ∙ few)
    (subst (λ (xs : List FieldState). AreStates schema logs xs) (sym same) are) each

pub schema_of_fields-requires : goal.schema_of_fields-requires
schema_of_fields-requires c =
    let schema = c.args.schema.now in
    let all = gathered schema c.args.standings.now c.requires.of_logs in
    let logs = all.0 in
    let stand = all.1 in
    let checked = c.in_ok-states.ensures in
    let specs = c.in_ok-fields.fields.items in
    record {
      faultless = settled_is_faultless schema c.sites.ensures.limits logs stand.lawful (checked.within logs stand)
          (record { sites = c.sites.result; fields = map spec_value specs })
          (made_settles schema logs c.in_ok-states.states.items c.as_slice.result.now c.sites.result specs c.as_slice.ensures.value
          (checked.states logs stand) c.sites.ensures.value c.in_ok-fields.ensures.count c.in_ok-fields.ensures.each);
    }

pub returns-clause-settled : goal.returns-clause-settled
returns-clause-settled c = λ logs stand.
    let schema = c.args.schema.now in
    subst (λ (made : SchemaValue). Settles schema logs made) (sym c.in_ok-schema_of_fields.ensures.value)
    (made_settles schema logs c.in_ok-states.states.items c.as_slice.result.now c.sites.result c.in_ok-fields.fields.items
    c.as_slice.ensures.value (c.in_ok-states.ensures.states logs stand) c.sites.ensures.value c.in_ok-fields.ensures.count
    c.in_ok-fields.ensures.each)
