use Rattle.std.proofs.Common.{◌≡◌, ◌<◌, ℕ, length}
use Rattle.std.specs.Prelude.{pos, ◌+ℤ◌, slice_index_or}
use Rattle.field_bounds.specs.Parts.{field_at}
use Rattle.central_machine.proofs.amounts.FieldAmounts.rooms.Given as goal

abbrev pub invariant-loop-field : goal.invariant-loop-field
invariant-loop-field l = record {
  lowers : length l.lower.items ≡ l.field;
  raises : length l.raise.items ≡ l.field;
  low : (f : ℕ) → f < l.field → ((field_at l.schema f).floor +ℤ pos (slice_index_or l.lower.items f 0))
      ≡ (field_at l.schema f).value;
  high : (f : ℕ) → f < l.field → ((field_at l.schema f).value +ℤ pos (slice_index_or l.raise.items f 0))
      ≡ (field_at l.schema f).ceiling;
}
