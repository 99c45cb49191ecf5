use Rattle.std.proofs.Common.{◌↔◌, take, reverse, Contains}
use Rattle.field_bounds.specs.declared.entry.Statement.{Statement}
use Rattle.field_bounds.specs.Statements.{IsIssued}
use Rattle.site_workers.proofs.statement_sets.issued_by.Given as goal

abbrev pub invariant-loop-entry : goal.invariant-loop-entry
invariant-loop-entry l = (told : Statement) → Contains l.set told ↔ IsIssued told (reverse (take l.entry-index l.history))
