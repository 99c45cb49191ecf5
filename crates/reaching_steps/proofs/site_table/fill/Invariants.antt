use Rattle.std.proofs.Common.{◌≡◌, length}
use Rattle.reaching_steps.specs.Told.{AreReadIn}
use Rattle.reaching_steps.proofs.site_table.fill.Given as goal

abbrev pub invariant-loop-i : goal.invariant-loop-i
invariant-loop-i l = (length l.table ≡ l.world.schema.sites) × AreReadIn l.world.schema l.field.0 l.trace l.i l.table
