-- The records of a log that was read, from what each call of it tells.
use Rattle.std.proofs.Common.{◌≡◌, ℕ, Bool, true, false, not, List, Option, None, Some, string_bytes, sym, ap, subst, ◌∙◌, inr}
use Rattle.std.specs.Prelude.{IfNone, IfSome}
use Rattle.log_stand.specs.declared.stand.Stand.{Stand}
use Rattle.log_stand.specs.Stand.{IsStandOf}
use Rattle.site_folder.specs.Identity.{IdentityValue}
use Rattle.log_head.specs.declared.gone.Gone.{Gone}
use Rattle.held_logs.specs.Held.{Holds}
use Rattle.held_logs.specs.Counts.{IsStandBehind}
use Rattle.world_folders.specs.declared.worlds.SiteFolder.{SiteFolder}
use Rattle.world_folders.specs.declared.folder_log.FolderReplay.{FolderReplay}
use Rattle.world_folders.specs.declared.showing.Shown.{Shown}
use Rattle.world_folders.specs.Reading.{IsRead, IsSeen}
use Rattle.world_folders.specs.Folders.{IsFolderOf}
use Rattle.field_bounds.specs.Schema.{SchemaValue}
use Rattle.log_replay.specs.declared.standing.Standing.{Standing}
use Rattle.log_replay.specs.declared.log_bytes.LogReplayed.{LogReplayed}
use Rattle.log_replay.specs.declared.log_bytes.LogReplayed.TheVariants as came
use Rattle.world_folders.specs.Logs.{AreOfLog, ReplaysLog, ComesAsRead, ShowsLog, HaveCome, TellsHeld, gone_bytes, length_of}
use Rattle.world_folders.specs.Lost.{TellsLost}

pub read_at : (holds : List ℕ → List ℕ → Type 0) (at path bytes : List ℕ) → at ≡ path → IsRead holds at bytes → IsRead holds path bytes
read_at holds at path bytes same read = subst (λ (p : List ℕ). IsRead holds p bytes) same read

pub of_log : (holds : List ℕ → List ℕ → Type 0) (at path : List ℕ) (identity : IdentityValue) (file slice : List ℕ) (gone : Option Gone)
    (held records : List ℕ) → at ≡ path → slice ≡ file → records ≡ held → IsRead holds at file → Holds identity slice gone held
    → AreOfLog holds path identity gone records
of_log holds at path identity file slice gone held records place same is read holds_it = record {
  file = file;
  read = read_at holds at path file place read;
  held = subst (λ (r : List ℕ). Holds identity file gone r) (sym is) (subst (λ (f : List ℕ). Holds identity f gone held) same holds_it);
}

-- so far the log has come, whatever is gone of it
pub have_come : (gone : Option Gone) (records : List ℕ) (stand : Stand) → IfNone gone (IsStandOf records stand)
    → IfSome gone (λ g. IsStandBehind g records stand) → HaveCome gone records stand
have_come None records stand whole behind = whole
have_come (Some gone) records stand whole behind = behind

pub lost_seen : (stands : List ℕ → Bool → Type 0) (folders : List SiteFolder) (s : ℕ) (folder : SiteFolder) (at : List ℕ) (there : Bool)
    → at ≡ string_bytes folder.paths.log → IsFolderOf folders s folder → IsSeen stands at there → TellsLost stands folders s (not there)
lost_seen stands folders s folder at true place own seen = record {
  folder = folder;
  own = own;
  seen = subst (λ (p : List ℕ). IsSeen stands p true) place seen;
}
lost_seen stands folders s folder at false place own seen = inr (record {
  folder = folder;
  own = own;
  seen = subst (λ (p : List ℕ). IsSeen stands p false) place seen;
})

-- ---- one site of a world

pub comes_read : (holds : List ℕ → List ℕ → Type 0) (folders : List SiteFolder) (schema : SchemaValue) (s : ℕ) (folder : SiteFolder)
    (replay : FolderReplay) (replayed : LogReplayed) → IsFolderOf folders s folder
    → ReplaysLog holds (string_bytes folder.paths.log) folder.identity schema s replay → replay.came ≡ replayed
    → ComesAsRead holds folders schema s replayed
comes_read holds folders schema s folder replay replayed own read is = record {
  folder = folder;
  own = own;
  gone = replay.gone;
  records = read.records;
  log = read.log;
  tells = subst (λ (r : LogReplayed). TellsHeld schema s replay.gone read.records r) is read.tells;
}

pub shows_read : (holds : List ℕ → List ℕ → Type 0) (path : List ℕ) (identity : IdentityValue) (replay : FolderReplay) (shown : Shown)
    (standing : Standing) (size : ℕ) → ReplaysLog holds path identity identity.schema identity.number.0 replay
    → replay.came ≡ came.Standing standing size → shown.gone ≡ gone_bytes replay.gone → shown.length ≡ length_of replay.gone size
    → shown.standing ≡ standing → ShowsLog holds path identity shown
shows_read holds path identity replay shown standing size read is gone long stands = record {
  gone = replay.gone;
  records = read.records;
  log = read.log;
  size = size;
  comes = subst (λ (r : LogReplayed). TellsHeld identity.schema identity.number.0 replay.gone read.records r)
      (is ∙ ap (λ (d : Standing). came.Standing d size) (sym stands)) read.tells;
  long = long;
  told_gone = gone;
}
