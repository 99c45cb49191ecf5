use Rattle.std.proofs.Common.{rules}
use Rattle.entry_text.proofs.Commands.{command_says, command_spelled}
use Rattle.entry_text.proofs.command.read_command.Goals as goal

pub returns-in-Some-default-default-empty : goal.returns-in-Some-default-default-empty
returns-in-Some-default-default-empty c =
    let asked = c.in-Some-default-default-empty in
    command_says c.args.schema.now c.new.ensures.limits c.args.line.now _
    (command_spelled c.args.schema.now c.new.ensures.limits c.args.line.now asked.site asked.command asked.field-0-2.now asked.ensures.fits
    (search rules) asked.len_below)

pub returns : goal.returns
returns c = command_says c.args.schema.now c.new.ensures.limits c.args.line.now c.cut_command.result c.cut_command.ensures
