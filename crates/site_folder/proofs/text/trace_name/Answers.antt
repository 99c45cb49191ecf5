use Rattle.std.proofs.Common.{rules}
use Rattle.site_folder.proofs.text.trace_name.Goals as goal

pub returns : goal.returns
returns c = search rules
