-- Logs that the entries of a trace left (this project).
use Rattle.std.specs.Prelude.{ℕ, ◌<◌, Bool, List, []}
use Rattle.field_bounds.specs.declared.entry.Entry.{Entry}
use Rattle.field_bounds.specs.Schema.{SchemaValue}
use Rattle.field_bounds.specs.Effects.{fresh}
use Rattle.field_bounds.specs.Central.{own}
use Rattle.kept_records.specs.declared.record.Record.{Record}
use Rattle.kept_records.specs.Stands.{plain}
use Rattle.kept_state.specs.Keeps.{Keeps}
use Rattle.world_logs.specs.Logs.{log_of, AreLawful}

-- The logs of all sites are what a trace left: each is lawful, and without its summaries it is what the site's own entries
-- left on an empty medium. kept tells of each site whether its record in doubt, if there is one, stands in its log.
pub record AreLeft (schema : SchemaValue) (t : List Entry) (kept : ℕ → Bool) (logs : List (List Record)) : Type 0 where
  pub lawful : AreLawful schema logs
  pub left : (s : ℕ) → s < schema.sites → Keeps schema s (fresh schema s) [] (kept s) (own s t) (plain (log_of logs s))
