use Rattle.std.proofs.Common.{◌≡◌, ℕ, ◌<◌, Some, length, map}
use Rattle.std.specs.List.{slice_get}
use Rattle.field_bounds.specs.Schema.{spec_value}
use Rattle.field_bounds.specs.Parts.{field_at}
use Rattle.world_logs.specs.declared.field_state.FieldState.{FieldState}
use Rattle.world_logs.specs.States.{with_state}
use Rattle.world_logs.proofs.settle.settled_fields.Given as goal

-- those of the fields so far
abbrev pub invariant-loop-number : goal.invariant-loop-number
invariant-loop-number l = record {
  count : length l.specs.items ≡ l.number;
  each : (f : ℕ) (state : FieldState) → f < l.number → slice_get l.states f ≡ Some state
      → slice_get (map spec_value l.specs.items) f ≡ Some (with_state (field_at l.schema f) state);
}
