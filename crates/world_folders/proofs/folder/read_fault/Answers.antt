use Rattle.std.proofs.Common.{subst}
use Rattle.folder_faults.specs.declared.fault.Why.{Why}
use Rattle.folder_faults.specs.Faults.{IsRefused}
use Rattle.world_folders.proofs.folder.read_fault.Goals as goal

pub returns-in-NotThere : goal.returns-in-NotThere
returns-in-NotThere c =
    record {
      told = rw c.in-NotThere.is
          (subst (λ (why : Why). IsRefused c.args.path.now why c.refused.result) c.from.ensures c.refused.ensures);
    }
