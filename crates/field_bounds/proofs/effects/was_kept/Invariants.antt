use Rattle.std.proofs.Common.{◌≡◌, drop}
use Rattle.field_bounds.specs.Effects.{doubt_kept_in}
use Rattle.field_bounds.proofs.effects.was_kept.Given as goal

abbrev pub invariant-loop-entry : goal.invariant-loop-entry
invariant-loop-entry l = doubt_kept_in l.site.0 l.later ≡ doubt_kept_in l.site.0 (drop l.entry-index l.later)
