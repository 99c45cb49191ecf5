use Rattle.std.proofs.Common.{◌≡◌, ◌<◌, ℕ, length}
use Rattle.std.specs.Prelude.{slice_index_or}
use Rattle.field_bounds.specs.Parts.{part_of}
use Rattle.central_machine.proofs.amounts.FieldAmounts.parts_of.Given as goal

abbrev pub invariant-loop-field : goal.invariant-loop-field
invariant-loop-field l = record {
  count : length l.made.items ≡ l.field;
  each : (f : ℕ) → f < l.field → slice_index_or l.made.items f 0 ≡ part_of l.schema l.site.0 f l.kind;
}
