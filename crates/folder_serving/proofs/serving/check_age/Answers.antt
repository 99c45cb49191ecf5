use Rattle.std.proofs.Common.{ℕ, List, refl, subst, inr}
use Rattle.folder_faults.specs.declared.fault.Why.TheVariants.{Old}
use Rattle.folder_faults.specs.Faults.{IsRefused}
use Rattle.folder_serving.proofs.serving.check_age.Goals as goal

pub returns-then-is_before-clause-fault : goal.returns-then-is_before-clause-fault
returns-then-is_before-clause-fault g c =
    let stand = c.in_ok-stand.stand in
    let fault = c.refused.result in
    inr (record {
      stand = stand;
      read = c.in_ok-stand.ensures.stand;
      older = c.if-is_before.ensures.value.0 refl;
      told = subst (λ (path : List ℕ). IsRefused path (Old stand.epoch stand.length) fault) c.as_str.ensures.value c.refused.ensures;
    })
