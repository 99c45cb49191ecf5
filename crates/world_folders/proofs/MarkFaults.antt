-- Why a log isn't served beside the mark of its folder, from what each call of it tells.
use Rattle.std.proofs.Common.{◌≡◌, ℕ, List, subst, inl, inr}
use Rattle.log_stand.specs.declared.stand.Stand.{Stand}
use Rattle.log_stand.specs.Stand.{IsBefore}
use Rattle.site_folder.specs.Identity.{IdentityValue}
use Rattle.folder_faults.specs.declared.fault.Fault.{Fault}
use Rattle.folder_faults.specs.declared.fault.Why.{Why}
use Rattle.folder_faults.specs.declared.fault.Why.TheVariants.{Marked, NoMark}
use Rattle.folder_faults.specs.Faults.{IsRefused}
use Rattle.world_folders.specs.declared.reading.PathFault.{PathFault}
use Rattle.world_folders.specs.Logs.{IsStandRead}
use Rattle.world_folders.specs.Marks.{IsMarkFault, TellsMark, TellsNoMark}
use Rattle.world_folders.specs.Reading.{IsRead}
use Rattle.world_folders.proofs.ReadLogs.{read_at}

pub no_mark : (fails : List ℕ → PathFault → Type 0) (holds : List ℕ → List ℕ → Type 0) (at marked log : List ℕ) (identity : IdentityValue)
    (bytes slice : List ℕ) (fault : Fault) → at ≡ marked → slice ≡ bytes → IsRead holds at bytes → TellsNoMark slice
    → IsRefused at NoMark fault → IsMarkFault fails holds marked log identity fault
no_mark fails holds at marked log identity bytes slice fault place same read none told = inr (inl (record {
  bytes = bytes;
  read = read_at holds at marked bytes place read;
  none = subst (λ (b : List ℕ). TellsNoMark b) same none;
  told = subst (λ (p : List ℕ). IsRefused p NoMark fault) place told;
}))

pub marked_older : (fails : List ℕ → PathFault → Type 0) (holds : List ℕ → List ℕ → Type 0) (at marked log_at log : List ℕ)
    (identity : IdentityValue) (bytes slice : List ℕ) (mark stand : Stand) (why : Why) (fault : Fault) → at ≡ marked → log_at ≡ log
    → slice ≡ bytes → why ≡ Marked stand.epoch stand.length mark.epoch mark.length → IsRead holds at bytes → TellsMark slice mark
    → IsStandRead holds log identity stand → IsBefore stand mark → IsRefused log_at why fault → IsMarkFault fails holds marked log identity fault
marked_older fails holds at marked log_at log identity bytes slice mark stand why fault place log_place same is read mark_told stand_read older told =
    inr (inr (inr (record {
      bytes = bytes;
      read = read_at holds at marked bytes place read;
      mark = mark;
      mark_told = subst (λ (b : List ℕ). TellsMark b mark) same mark_told;
      stand = stand;
      stand_read = stand_read;
      older = older;
      told =
          subst (λ (p : List ℕ). IsRefused p (Marked stand.epoch stand.length mark.epoch mark.length) fault) log_place
          (subst (λ (w : Why). IsRefused log_at w fault) is told);
    })))
