use Rattle.std.proofs.Common.{rules}
use Rattle.folder_logs.proofs.beside.why_apart.Goals as goal

pub returns-then-not-are_of_one_world : goal.returns-then-not-are_of_one_world
returns-then-not-are_of_one_world c = search rules

pub returns : goal.returns
returns c = search rules
