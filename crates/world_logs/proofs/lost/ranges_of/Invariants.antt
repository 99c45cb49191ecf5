use Rattle.std.proofs.Common.{◌≡◌, ℕ, ◌<◌, List, Option, Some, length}
use Rattle.std.specs.List.{slice_get}
use Rattle.kept_records.specs.declared.record.Record.{Record}
use Rattle.world_logs.specs.Lost.{range_of, HasRoom}
use Rattle.world_logs.specs.LostBody.{StandForKnown}
use Rattle.world_logs.proofs.lost.ranges_of.Given as goal

-- those of the fields so far, each of which has room
abbrev pub invariant-loop-number : goal.invariant-loop-number
invariant-loop-number l = record {
  count : length l.ranges.items ≡ l.number;
  each : (known : List (Option (List Record))) → StandForKnown l.schema known l.standings l.lost → (f : ℕ) → f < l.number
      → slice_get l.ranges.items f ≡ Some (range_of l.schema known f);
  room : (known : List (Option (List Record))) → StandForKnown l.schema known l.standings l.lost → (f : ℕ) → f < l.number
      → HasRoom l.schema known f;
}
