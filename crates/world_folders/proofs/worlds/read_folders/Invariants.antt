use Rattle.std.proofs.Common.{◌≡◌, ◌<◌, ℕ, length, String, string_bytes}
use Rattle.std.specs.Global.{Global}
use Rattle.std.specs.Prelude.{slice_index_or}
use Rattle.folder_logs.specs.Beside.{GoBeside}
use Rattle.world_folders.specs.declared.worlds.SiteFolder.{SiteFolder}
use Rattle.world_folders.specs.Folders.{IsSiteFolder}
use Rattle.world_folders.proofs.worlds.read_folders.Given as goal

-- there are the folders of the names so far
abbrev pub invariant-loop-name : goal.invariant-loop-name
invariant-loop-name g l = record {
  count : length l.folders.items ≡ l.name-index;
  each : (k : ℕ) (n : String Global) (d : SiteFolder) → k < l.name-index
      → IsSiteFolder (g.R.ReadsFiles.holds l.fn.files) (string_bytes (slice_index_or l.named k n)) (slice_index_or l.folders.items k d);
  beside : (k j : ℕ) (d e : SiteFolder) → k < l.name-index → j < k
      → GoBeside (slice_index_or l.folders.items k d).identity (slice_index_or l.folders.items j e).identity;
}
