use Rattle.std.proofs.Common.{Some}
use Rattle.escrow_run.proofs.StepLemmas.{digit_only}
use Rattle.escrow_run.proofs.line.any_line.Goals as goal

pub returns-in_ok-command_step-clause-only : goal.returns-in_ok-command_step-clause-only
returns-in_ok-command_step-clause-only c = λ is asked a.
    digit_only c.args.schema.now is c.args.line.now (Some c.in_ok-command_step.field-0) c.if-begins_with_name.ensures
    c.in_ok-command_step.ensures.found tt asked a
