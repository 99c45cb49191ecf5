use Rattle.std.proofs.Common.{◌≡◌, ◌<◌, ℕ, length}
use Rattle.std.specs.Prelude.{slice_index_or}
use Rattle.std.specs.Global.{Vec}
use Rattle.field_bounds.specs.declared.entry.Entry.{Entry}
use Rattle.world_folders.specs.Traces.{IsHistoryRead}
use Rattle.world_folders.proofs.weaving.read_histories.Given as goal

-- there is the history of each site so far
abbrev pub invariant-loop-number : goal.invariant-loop-number
invariant-loop-number g l = record {
  count : length l.histories.items ≡ l.number;
  each : (s : ℕ) (d : Vec Entry) → s < l.number
      → IsHistoryRead (g.R.ReadsFiles.holds l.fn.files) l.fn.world.folders.items s (slice_index_or l.histories.items s d).items;
}
