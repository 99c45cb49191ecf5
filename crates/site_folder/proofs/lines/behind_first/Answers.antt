use Rattle.std.proofs.Common.{rules}
use Rattle.site_folder.proofs.lines.behind_first.Goals as goal

pub returns : goal.returns
returns c = search rules
