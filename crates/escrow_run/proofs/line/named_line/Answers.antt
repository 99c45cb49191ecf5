use Rattle.std.proofs.Common.{rules, Some, None}
use Rattle.escrow_run.proofs.StepLemmas.{named_says}
use Rattle.escrow_run.proofs.line.named_line.Goals as goal

pub returns-in_err-asked : goal.returns-in_err-asked
returns-in_err-asked c = named_says c.args.schema.now c.new.ensures.limits c.args.line.now _ (search rules)

pub returns-then-is_empty : goal.returns-then-is_empty
returns-then-is_empty c = named_says c.args.schema.now c.new.ensures.limits c.args.line.now (Some c.in_ok-asked.asked) (search rules)

pub returns-else-is_empty : goal.returns-else-is_empty
returns-else-is_empty c = named_says c.args.schema.now c.new.ensures.limits c.args.line.now None (search rules)
