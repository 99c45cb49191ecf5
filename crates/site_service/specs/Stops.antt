-- What a stop leaves of a batch (this project).
use Rattle.std.specs.Prelude.{◌≡◌, ℕ, Bool, List, ◌++◌}
use Rattle.field_bounds.specs.Schema.{SchemaValue}
use Rattle.field_bounds.specs.Effects.{Base}
use Rattle.field_bounds.specs.declared.entry.Entry.{Entry}
use Rattle.kept_records.specs.declared.record.Record.{Record}
use Rattle.kept_state.specs.Keeps.{Keeps}

-- The records are those that a front of the history leaves: what came after it left nothing.
pub record KeepsFront (schema : SchemaValue) (s : ℕ) (base : Base) (bs : List Record) (history : List Entry) (rs : List Record) : Type 0 where
  pub newer : List Entry
  pub older : List Entry
  pub kept : Bool
  pub split : history ≡ newer ++ older
  pub keeps : Keeps schema s base bs kept older rs
