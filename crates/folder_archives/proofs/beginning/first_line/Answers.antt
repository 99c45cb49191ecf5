use Rattle.std.proofs.Common.{sym}
use Rattle.folder_archives.proofs.Firsts.{first_all, first_at}
use Rattle.folder_archives.proofs.beginning.first_line.Goals as goal

pub returns-in-Some : goal.returns-in-Some
returns-in-Some c = record { first = first_at c.args.records.now c.in-Some.end (sym c.in-Some.ensures.value) }

pub returns-in-None : goal.returns-in-None
returns-in-None c = record { first = first_all c.args.records.now (sym c.in-None.ensures.value) }
