-- What a schema keeps of its fields, as values.
use Rattle.std.specs.Prelude.{List, map, string_bytes, String}
use Rattle.std.specs.declared.alloc.Global.{Global}
use Rattle.field_bounds.specs.declared.schema.FieldBounds.{FieldBounds}
use Rattle.field_bounds.specs.Schema.{FieldValue}

abbrev pub entry_value : String Global × FieldBounds → FieldValue
entry_value e = record { name = string_bytes e.0; floor = e.1.floor; ceiling = e.1.ceiling; value = e.1.value }

abbrev pub stored_values : List (String Global × FieldBounds) → List FieldValue
stored_values es = map entry_value es
