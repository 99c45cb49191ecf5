-- Where the fields of a world stand by its logs (this project).
use Rattle.std.specs.Prelude.{◌≡◌, ℕ, ◌<◌, List, length, Some, slice_get}
use Rattle.field_bounds.specs.Schema.{FieldValue, SchemaValue}
use Rattle.field_bounds.specs.Parts.{field_at}
use Rattle.kept_records.specs.declared.record.Record.{Record}
use Rattle.world_logs.specs.declared.field_state.FieldState.{FieldState}
use Rattle.world_logs.specs.Logs.{value_in, floor_in, ceiling_in}

-- The committed value of a field and its bounds as tightened.
abbrev pub state_of : SchemaValue → List (List Record) → ℕ → FieldState
state_of schema logs f = record { value = value_in schema logs f; floor = floor_in schema logs f; ceiling = ceiling_in schema logs f }

-- Those of all fields, in their order.
pub record AreStates (schema : SchemaValue) (logs : List (List Record)) (states : List FieldState) : Type 0 where
  pub count : length states ≡ length schema.fields
  pub each : (f : ℕ) → f < length schema.fields → slice_get states f ≡ Some (state_of schema logs f)

-- A field of the same name that begins at this state.
abbrev pub with_state : FieldValue → FieldState → FieldValue
with_state f state = record f { floor = state.floor; ceiling = state.ceiling; value = state.value }

-- A schema settles logs: it has as many sites, and the same fields in the same order, each of which begins at its committed
-- value with the bounds as tightened.
pub record Settles (schema : SchemaValue) (logs : List (List Record)) (new : SchemaValue) : Type 0 where
  pub sites : new.sites ≡ schema.sites
  pub count : length new.fields ≡ length schema.fields
  pub each : (f : ℕ) → f < length schema.fields → field_at new f ≡ with_state (field_at schema f) (state_of schema logs f)
