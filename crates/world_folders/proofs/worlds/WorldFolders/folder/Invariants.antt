use Rattle.std.proofs.Common.{◌≢◌, ◌<◌, ℕ}
use Rattle.std.specs.Prelude.{slice_index_or}
use Rattle.world_folders.specs.declared.worlds.SiteFolder.{SiteFolder}
use Rattle.world_folders.proofs.worlds.WorldFolders.folder.Given as goal

-- no folder so far is that of the site
abbrev pub invariant-loop-folder : goal.invariant-loop-folder
invariant-loop-folder l =
    (k : ℕ) (d : SiteFolder) → k < l.folder-index → (slice_index_or l.folder-items k d).identity.number.0 ≢ l.site.0
