use Rattle.entry_text.proofs.LineLengths.{commands_are_lines, entries_are_lines}
use Rattle.entry_text.proofs.laws.texts_are_lines.Goals as goal

pub returns-clause-commands : goal.returns-clause-commands
returns-clause-commands c = commands_are_lines

pub returns-clause-entries : goal.returns-clause-entries
returns-clause-entries c = entries_are_lines
