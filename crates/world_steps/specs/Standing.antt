-- Where each site of a world stands, given what was lived (this project).
use Rattle.std.specs.Prelude.{◌≡◌, ℕ, ◌+◌, ◌<◌, ◌≤◌, true, List, ◌∷◌, length, get_or, Some}
use Rattle.field_bounds.specs.declared.entry.Command.{Command}
use Rattle.field_bounds.specs.declared.entry.Reply.{Reply}
use Rattle.field_bounds.specs.declared.entry.Last.{Last}
use Rattle.field_bounds.specs.Schema.{SchemaValue}
use Rattle.field_bounds.specs.Effects.{fresh}
use Rattle.field_bounds.specs.Owed.{epoch_of}
use Rattle.kept_records.specs.declared.medium.Mishap.TheVariants.{Never}
use Rattle.kept_state.specs.declared.luck.Luck.{Luck}
use Rattle.kept_state.specs.Luck.{Lucky, entries, own_lucky, covered_restarts, doubt, owed_with, epoch_kept, doubt_after, record_length}
use Rattle.site_step.specs.Site.{SiteValue, Finds, here, entry_of}

-- One command at one site, with its luck, where a restart would have found this greatest epoch and this of the record in
-- doubt: the reply is the one that is owed then, so is what a restart would find after it, and no mishap is to come.
pub record Once (before : SiteValue) (epoch : ℕ) (found : Last) (command : Command) (luck : Luck) (reply : Reply)
    (later : SiteValue) : Type 0 where
  pub reply_is : reply ≡ owed_with (here before) epoch found command luck
  pub finds : Finds later (epoch_kept reply luck epoch) (doubt_after reply luck (record_length (here before) command) found)
  pub history_is : later.history ≡ entry_of before command reply ∷ before.history
  pub schema_is : later.schema ≡ before.schema
  pub site_is : later.site ≡ before.site
  pub fresh_is : later.fresh ≡ before.fresh
  pub failed_is : later.failed ≤ before.failed + 1
  pub foretold_is : later.foretold ≡ Some Never

-- A site stands where its own part of the past leaves it, on its fresh base: its history is that part, a restart would find
-- what that part tells, it has failed at most so often, and no mishap is to come.
pub record Follows (schema : SchemaValue) (s : ℕ) (past : List Lucky) (bound : ℕ) (v : SiteValue) : Type 0 where
  pub schema_is : v.schema ≡ schema
  pub site_is : v.site.0 ≡ s
  pub fresh_is : v.fresh ≡ true
  pub history_is : v.history ≡ entries past
  pub failed_is : v.failed ≤ bound
  pub foretold_is : v.foretold ≡ Some Never
  pub finds : Finds v (epoch_of (fresh schema s) (entries past) + covered_restarts (fresh schema s) past)
      (doubt schema s (fresh schema s) past)

-- Each site stands where the past leaves it.
unfoldable pub AllFollow : SchemaValue → List Lucky → ℕ → List SiteValue → Type 0
AllFollow schema past bound sites =
    (s : ℕ) (d : SiteValue) → s < length sites → Follows schema s (own_lucky s past) bound (get_or sites s d)

-- No mishap is to come at any site, and each has failed less often than the bound.
unfoldable pub AreCalm : ℕ → List SiteValue → Type 0
AreCalm bound sites =
    (s : ℕ) (d : SiteValue) → s < length sites → ((get_or sites s d).foretold ≡ Some Never) × ((get_or sites s d).failed < bound)
