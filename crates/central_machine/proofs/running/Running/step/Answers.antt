use Rattle.std.proofs.lemmas.Result.{on_ok_weaker}
use Rattle.central_machine.proofs.running.Running.step.Goals as goal

pub returns : goal.returns
returns c =
    on_ok_weaker c.step_by.result
    (λ steps t few are legal fits. record {
      totals = steps t few are.totals legal fits;
      issued = c.in_ok-note.ensures t are.issued;
    })
    c.step_by.ensures
