use Rattle.std.proofs.Common.{rules, Some, None}
use Rattle.escrow_audit.specs.Remarks.{remark_of}
use Rattle.escrow_audit.proofs.Remarks.{remark_says}
use Rattle.escrow_audit.proofs.remark.read_remark.Goals as goal

pub returns-in_err-remark : goal.returns-in_err-remark
unfolding remark_of
returns-in_err-remark c = remark_says c.args.schema.now c.new.ensures.limits c.args.line.now _ (search rules)

pub returns-then-is_empty : goal.returns-then-is_empty
unfolding remark_of
returns-then-is_empty c = remark_says c.args.schema.now c.new.ensures.limits c.args.line.now (Some c.in_ok-remark.remark) (search rules)

pub returns-else-is_empty : goal.returns-else-is_empty
unfolding remark_of
returns-else-is_empty c = remark_says c.args.schema.now c.new.ensures.limits c.args.line.now None (search rules)
