use Rattle.std.proofs.Common.{ℕ, List, subst}
use Rattle.folder_faults.specs.declared.fault.Why.TheVariants.{OtherLog, HeadChanged}
use Rattle.folder_faults.specs.Faults.{IsRefused}
use Rattle.world_folders.proofs.folder_log.held_in.Goals as goal

pub returns-in-Err-Other-clause-none : goal.returns-in-Err-Other-clause-none
returns-in-Err-Other-clause-none c =
    record {
      why = c.in-Err-Other.field-0;
      is = c.in-Err-Other.ensures.fault;
      told = rw c.in-Err-Other.field-0-is
          (subst (λ (path : List ℕ). IsRefused path OtherLog c.refused.result) c.as_str.ensures.value c.refused.ensures);
    }

pub returns-in-Err-Changed-clause-none : goal.returns-in-Err-Changed-clause-none
returns-in-Err-Changed-clause-none c =
    let fault = c.refused-in-Err-Changed.result in
    record {
      why = c.in-Err-Changed.field-0;
      is = c.in-Err-Changed.ensures.fault;
      told = rw c.in-Err-Changed.field-0-is
          (subst (λ (path : List ℕ). IsRefused path HeadChanged fault) c.as_str-in-Err-Changed.ensures.value
          c.refused-in-Err-Changed.ensures);
    }
