-- Which totals of a list count, and where they may stand (this project).
use Rattle.std.specs.Prelude.{ℕ, ◌==◌, ◌&&◌, if◌then◌else◌, Bool}
use Rattle.field_bounds.specs.declared.kind.Kind.{Kind}
use Rattle.field_bounds.specs.Kind.{same_kind}
use Rattle.field_bounds.specs.Schema.{SchemaValue}
use Rattle.kept_records.specs.declared.total.Total.{Total}
use Rattle.kept_records.specs.declared.total.Cut.{Cut}
use Rattle.kept_records.specs.Stands.{is_field, is_other_site}

-- A total, where it is of this field and kind.
abbrev pub on_field : ℕ → Kind → Total → ℕ
on_field f k t = if (t.field.0 == f) && same_kind t.kind k then t.total else 0

-- It is of another site of the schema, and of a field of it.
abbrev pub is_due : SchemaValue → ℕ → Total → Bool
is_due schema s t = is_other_site schema s t.site.0 && is_field schema t.field.0

-- A total that was given up is of a field of the schema.
abbrev pub is_cut_due : SchemaValue → Cut → Bool
is_cut_due schema t = is_field schema t.field.0
