-- One site over a front of a trace, with all that is summed over its entries.
use Rattle.std.specs.Prelude.{◌≡◌, ℕ, ◌<◌, ◌≤◌, List, length, reverse}
use Rattle.field_bounds.specs.declared.id.SiteNo.{SiteNo}
use Rattle.field_bounds.specs.declared.entry.Entry.{Entry}
use Rattle.field_bounds.specs.declared.effect.Effect.{Effect}
use Rattle.field_bounds.specs.Schema.{SchemaValue}
use Rattle.field_bounds.specs.Effects.{fresh}
use Rattle.field_bounds.specs.Owed.{Place, place, is_up, epoch_of, count_since, is_begun_reply, is_still_down, is_unsure}
use Rattle.field_bounds.specs.Central.{own}
use Rattle.central_rules.specs.Entries.{most_entries}
use Rattle.central_rules.specs.declared.site_counts.SiteCounts.{SiteCounts}

-- Where a site stands after a front, the newest entry first.
abbrev pub place_in : SchemaValue → ℕ → List Entry → Place
place_in schema s t = place schema s (fresh schema s) (own s t)

-- A site over a front, as contracts see it, and its place there.
pub record Seen : Type 0 where
  pub schema : SchemaValue
  pub site : SiteNo
  pub front : List Entry

abbrev pub here : Seen → Place
here v = place_in v.schema v.site.0 v.front

-- What is kept of the place is what the definitions say.
pub record Shows (at : Place) (site_counts : SiteCounts) (list : List Effect) : Type 0 where
  pub site_in : at.site < at.schema.sites
  pub up : site_counts.up ≡ is_up at.base at.entries
  pub epoch : site_counts.epoch ≡ epoch_of at.base at.entries
  pub begun : site_counts.begun ≡ count_since is_begun_reply at.entries
  pub still_down : site_counts.still_down ≡ count_since is_still_down at.entries
  pub unsure : site_counts.unsure ≡ count_since is_unsure at.entries
  pub few : (site_counts.begun ≤ most_entries) × (site_counts.still_down ≤ most_entries)
      × (site_counts.unsure ≤ most_entries)
  pub made : reverse list ≡ at.effects
  pub few_made : length list ≤ most_entries
