use Rattle.std.proofs.Common.{◌↔◌, take, reverse, Contains}
use Rattle.field_bounds.specs.declared.entry.Statement.{Statement}
use Rattle.site_workers.specs.Scripts.{HasAccept}
use Rattle.site_workers.proofs.statement_sets.accepted_by.Given as goal

abbrev pub invariant-loop-entry : goal.invariant-loop-entry
invariant-loop-entry l = (told : Statement) → Contains l.set told ↔ HasAccept told (reverse (take l.entry-index l.history))
