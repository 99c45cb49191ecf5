use Rattle.site_service.proofs.Ends.{last_byte, no_byte}
use Rattle.site_service.proofs.opening.lines_length.Goals as goal

pub returns-in-Some-clause-whole : goal.returns-in-Some-clause-whole
returns-in-Some-clause-whole c = (last_byte c.args.bytes.now c.in-Some.at c.in-Some.ensures).0

pub returns-in-Some-clause-rest : goal.returns-in-Some-clause-rest
returns-in-Some-clause-rest c = (last_byte c.args.bytes.now c.in-Some.at c.in-Some.ensures).1

pub returns-in-None-clause-rest : goal.returns-in-None-clause-rest
returns-in-None-clause-rest c = no_byte c.args.bytes.now c.in-None.ensures
