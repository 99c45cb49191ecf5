use Rattle.std.proofs.Common.{ℕ, List, subst}
use Rattle.folder_faults.specs.declared.fault.Why.TheVariants.{DamagedBatch}
use Rattle.folder_faults.specs.Faults.{IsRefused}
use Rattle.world_folders.proofs.folder_log.damaged_line.Goals as goal

pub returns : goal.returns
returns c =
    record {
      told = subst (λ (path : List ℕ). IsRefused path (DamagedBatch c.args.line) c.refused.result) c.as_str.ensures.value c.refused.ensures;
    }
