use Rattle.std.proofs.Common.{take, reverse, Contains}
use Rattle.field_bounds.specs.declared.entry.Statement.{Statement}
use Rattle.site_workers.specs.Scripts.{HasAccept}
use Rattle.site_workers.specs.Crossing.{set_at}
use Rattle.site_workers.proofs.crossing.first_unissued.Given as goal

abbrev pub invariant-loop-entry : goal.invariant-loop-entry
invariant-loop-entry l = (told : Statement) → HasAccept told (reverse (take l.entry-index l.history))
    → Contains (set_at l.issued told.from.0) told
