use Rattle.short_files.proofs.Begins.{begins_more}
use Rattle.short_files.proofs.finding.head_at_once.Goals as goal

pub returns-in-Ok-head_in-clause-begins : goal.returns-in-Ok-head_in-clause-begins
returns-in-Ok-head_in-clause-begins g c =
    begins_more c.args.identity.now (g.F.LogFile.bytes c.args.file.now) c.in-Ok.count c.read_at.new.buffer c.in-Ok-head_in.found.gone
    c.in-Ok.ensures.read c.in-Ok-head_in.ensures.begins
