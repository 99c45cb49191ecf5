use Rattle.std.proofs.Common.{◌≡◌, length}
use Rattle.reaching_steps.proofs.OnePass.{Empties}
use Rattle.reaching_steps.proofs.site_table.empty_table.Given as goal

abbrev pub invariant-loop-site : goal.invariant-loop-site
invariant-loop-site l = (length l.table.items ≡ l.site) × Empties l.fn.field.0 l.table.items
