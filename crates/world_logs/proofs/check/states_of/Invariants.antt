use Rattle.std.proofs.Common.{◌≡◌, ℕ, ◌<◌, List, length, Some}
use Rattle.std.specs.List.{slice_get}
use Rattle.kept_records.specs.declared.record.Record.{Record}
use Rattle.world_logs.specs.States.{state_of}
use Rattle.world_logs.specs.Body.{AddUp}
use Rattle.world_logs.proofs.check.states_of.Given as goal

-- those of the fields so far
abbrev pub invariant-loop-number : goal.invariant-loop-number
invariant-loop-number l = record {
  count : length l.states.items ≡ l.number;
  each : (logs : List (List Record)) → AddUp l.schema logs l.standings → (f : ℕ) → f < l.number
      → slice_get l.states.items f ≡ Some (state_of l.schema logs f);
}
