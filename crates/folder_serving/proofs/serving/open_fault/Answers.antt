use Rattle.std.proofs.Common.{ℕ, List, subst}
use Rattle.folder_faults.specs.declared.fault.Why.TheVariants.{BadRecord}
use Rattle.folder_faults.specs.Faults.{IsDevice, IsRefused}
use Rattle.folder_serving.proofs.serving.open_fault.Goals as goal

pub returns-in-Line : goal.returns-in-Line
returns-in-Line c =
    record {
      told = rw c.in-Line.is
          (subst (λ (path : List ℕ). IsRefused path (BadRecord c.in-Line.line) c.refused.result) c.as_str.ensures.value c.refused.ensures);
    }

pub returns-in-Device : goal.returns-in-Device
returns-in-Device c =
    record {
      told = rw c.in-Device.is
          (subst (λ (path : List ℕ). IsDevice path c.device_fault.result) c.as_str-in-Device.ensures.value c.device_fault.ensures);
    }
