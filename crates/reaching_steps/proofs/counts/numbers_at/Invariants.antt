use Rattle.std.proofs.Common.{◌≡◌, ◌≤◌, take, reverse}
use Rattle.field_bounds.specs.Schema.{SchemaValue}
use Rattle.field_bounds.specs.Effects.{fresh}
use Rattle.field_bounds.specs.Owed.{epoch_of, count_since, is_begun_reply}
use Rattle.field_bounds.specs.Central.{own}
use Rattle.reaching_steps.proofs.counts.numbers_at.Given as goal

abbrev pub invariant-loop-entry : goal.invariant-loop-entry
invariant-loop-entry l =
    ((schema : SchemaValue) → l.epoch ≡ epoch_of (fresh schema l.site.0) (own l.site.0 (reverse (take l.entry-index l.trace))))
    × (l.count ≡ count_since is_begun_reply (own l.site.0 (reverse (take l.entry-index l.trace))))
    × (l.count ≤ l.entry-index)
