-- The folders of the sites of a world (this project).
use Rattle.std.specs.Prelude.{◌≡◌, ◌≢◌, ◌<◌, ℕ, List, ◌++◌, length, codes, string_bytes, slice_index_or, String}
use Rattle.std.specs.Global.{Global}
use Rattle.site_folder.specs.Identity.{identity_text, world_name}
use Rattle.folder_logs.specs.Beside.{GoBeside}
use Rattle.world_folders.specs.declared.folder.Paths.{Paths}
use Rattle.world_folders.specs.declared.worlds.SiteFolder.{SiteFolder}
use Rattle.world_folders.specs.declared.worlds.WorldFolders.{WorldFolders}
use Rattle.world_folders.specs.Reading.{IsRead}

-- The path of a file of this name in a folder.
abbrev pub path_in : List ℕ → List ℕ → List ℕ
path_in folder name = (folder ++ codes "/") ++ name

-- The paths are those of this folder and of its files.
pub record ArePathsOf (folder : List ℕ) (paths : Paths) : Type 0 where
  pub own : string_bytes paths.folder ≡ folder
  pub above : string_bytes paths.above ≡ path_in folder (codes "..")
  pub log : string_bytes paths.log ≡ path_in folder (codes "log")
  pub site : string_bytes paths.site ≡ path_in folder (codes "site")
  pub trace : string_bytes paths.trace ≡ path_in folder (codes "trace")
  pub new_trace : string_bytes paths.new_trace ≡ path_in folder (codes "trace.new")
  pub settled : string_bytes paths.settled ≡ path_in folder (codes "settled")
  pub not_before : string_bytes paths.not_before ≡ path_in folder (codes "not_before")

-- The folder is that of a site: its file `site` was read, and is the text of who the folder belongs to.
pub record IsSiteFolder (holds : List ℕ → List ℕ → Type 0) (folder : List ℕ) (f : SiteFolder) : Type 0 where
  pub paths : ArePathsOf folder f.paths
  pub own : IsRead holds (string_bytes f.paths.site) (identity_text f.identity)

-- The folder goes with each of those before it: they are of one world, and no two of one site.
abbrev pub GoesWith : List SiteFolder → SiteFolder → Type 0
GoesWith before f = (k : ℕ) (d : SiteFolder) → k < length before → GoBeside f.identity (slice_index_or before k d).identity

-- The folders are those that were named, in their order, each of a site, and each goes with those before it.
pub record AreSiteFolders (holds : List ℕ → List ℕ → Type 0) (named : List (String Global)) (folders : List SiteFolder) : Type 0 where
  pub count : length folders ≡ length named
  pub each : (k : ℕ) (n : String Global) (d : SiteFolder) → k < length named
      → IsSiteFolder holds (string_bytes (slice_index_or named k n)) (slice_index_or folders k d)
  pub beside : (k j : ℕ) (d e : SiteFolder) → k < length named → j < k
      → GoBeside (slice_index_or folders k d).identity (slice_index_or folders j e).identity

-- The world is that of the folders that were named, of which there is one at least: its name, header and schema are those of the first.
pub record IsWorldOf (holds : List ℕ → List ℕ → Type 0) (named : List (String Global)) (world : WorldFolders) : Type 0 where
  pub folders : AreSiteFolders holds named world.folders.items
  pub first : SiteFolder
  pub is_first : slice_index_or world.folders.items 0 first ≡ first
  pub some : 0 < length world.folders.items
  pub name : string_bytes world.name ≡ world_name first.identity
  pub header : world.header.items ≡ first.identity.header
  pub schema : world.schema ≡ first.identity.schema

-- It is one of the folders, and that of the site of this number.
pub record IsFolderOf (folders : List SiteFolder) (s : ℕ) (f : SiteFolder) : Type 0 where
  pub place : ℕ
  pub within : place < length folders
  pub is : slice_index_or folders place f ≡ f
  pub own : f.identity.number.0 ≡ s

-- No folder is that of the site of this number.
abbrev pub HasNoFolder : List SiteFolder → ℕ → Type 0
HasNoFolder folders s = (k : ℕ) (d : SiteFolder) → k < length folders → (slice_index_or folders k d).identity.number.0 ≢ s
