use Rattle.std.proofs.Common.{◌≡◌, ◌≤◌, reverse, take, length}
use Rattle.field_bounds.specs.Effects.{fresh}
use Rattle.field_bounds.specs.Owed.{is_up, epoch_of, count_since, is_begun_reply, is_still_down, is_unsure}
use Rattle.field_bounds.specs.Central.{own}
use Rattle.central_rules.proofs.front.site_counts_at.Given as goal

abbrev pub invariant-loop-entry : goal.invariant-loop-entry
invariant-loop-entry l = record {
  up : l.now.up ≡ is_up (fresh l.schema l.site.0) (own l.site.0 (reverse (take l.entry-index l.front)));
  epoch : l.now.epoch ≡ epoch_of (fresh l.schema l.site.0) (own l.site.0 (reverse (take l.entry-index l.front)));
  begun : l.now.begun ≡ count_since is_begun_reply (own l.site.0 (reverse (take l.entry-index l.front)));
  still_down : l.now.still_down ≡ count_since is_still_down (own l.site.0 (reverse (take l.entry-index l.front)));
  unsure : l.now.unsure ≡ count_since is_unsure (own l.site.0 (reverse (take l.entry-index l.front)));
  few : length (own l.site.0 (reverse (take l.entry-index l.front))) ≤ l.entry-index;
  few_begun : l.now.begun ≤ l.entry-index;
  few_still_down : l.now.still_down ≤ l.entry-index;
  few_unsure : l.now.unsure ≤ l.entry-index;
}
