use Rattle.std.proofs.Common.{◌∙◌}
use Rattle.site_handle.proofs.Calls.{opened_by, bad_by}
use Rattle.site_handle.proofs.session.open_lines.Goals as goal

pub invariant_of-result : goal.invariant_of-result
invariant_of-result c =
    opened_by c.args.schema c.args.number c.args.lines.now c.new-medium.result.bytes c.in-Ok.site
    (c.new-medium.ensures.bytes ∙ c.in_ok-from_slice.ensures.items) c.requires.whole c.in-Ok.ensures.ok c.in-Ok.ensures.mishap
    c.in-Ok.ensures.whole

pub returns-in-Err-Line-default-clause-err : goal.returns-in-Err-Line-default-clause-err
returns-in-Err-Line-default-clause-err c =
    bad_by c.args.schema c.args.number.0 c.args.lines.now c.new-medium.result.bytes c.in-Err-Line-default.field-0-0
    c.in-Err-Line-default.line (c.new-medium.ensures.bytes ∙ c.in_ok-from_slice.ensures.items)
    c.in-Err-Line-default.field-0-0-is
    c.in-Err-Line-default.ensures.line
