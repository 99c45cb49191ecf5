use Rattle.std.proofs.Common.{rules}
use Rattle.world_logs.proofs.header_text.write_header.Goals as goal

pub returns-then-eq-clause-text : goal.returns-then-eq-clause-text
returns-then-eq-clause-text c = search rules

pub returns-then-eq-clause-reads_back : goal.returns-then-eq-clause-reads_back
returns-then-eq-clause-reads_back c = search rules

pub returns-then-eq-clause-fault : goal.returns-then-eq-clause-fault
returns-then-eq-clause-fault c = search rules
