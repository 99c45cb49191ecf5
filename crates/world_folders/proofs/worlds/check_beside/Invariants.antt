use Rattle.std.proofs.Common.{◌<◌, ℕ}
use Rattle.std.specs.Prelude.{slice_index_or}
use Rattle.folder_logs.specs.Beside.{GoBeside}
use Rattle.world_folders.specs.declared.worlds.SiteFolder.{SiteFolder}
use Rattle.world_folders.proofs.worlds.check_beside.Given as goal

-- the folder goes with those so far
abbrev pub invariant-loop-other : goal.invariant-loop-other
invariant-loop-other l =
    (k : ℕ) (d : SiteFolder) → k < l.other-index → GoBeside l.fn.folder.identity (slice_index_or l.before k d).identity
