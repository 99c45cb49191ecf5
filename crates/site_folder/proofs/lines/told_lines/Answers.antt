use Rattle.std.proofs.Common.{rules}
use Rattle.site_folder.proofs.lines.told_lines.Goals as goal

pub returns-in-Some : goal.returns-in-Some
returns-in-Some c = search rules
