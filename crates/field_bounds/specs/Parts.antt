-- How the rights of a field are divided among the sites (Balegas and others 2015 for the total of a
-- bounded counter, this project for the division).
use Rattle.std.specs.Prelude.{ℕ, zero, suc, ◌+◌, ◌/◌, ◌%◌, ℤ, pos, ◌-ℤ◌, unsigned_abs, [], slice_index_or, nat_lt, if◌then◌else◌}
use Rattle.field_bounds.specs.declared.kind.Kind.{Kind}
use Rattle.field_bounds.specs.declared.kind.Kind.TheVariants.{Lower, Raise}
use Rattle.field_bounds.specs.Schema.{FieldValue, SchemaValue}

-- The rights of a kind that a field begins with: value less floor, or ceiling less value.
abbrev pub total_of : FieldValue → Kind → ℕ
total_of f Lower = unsigned_abs (f.value -ℤ f.floor)
total_of f Raise = unsigned_abs (f.ceiling -ℤ f.value)

-- The width of a field: ceiling less floor, which is all its rights of both kinds.
abbrev pub width_of : FieldValue → ℕ
width_of f = unsigned_abs (f.ceiling -ℤ f.floor)

-- Site s of n gets a total over n, and one more where s is below what is left.
abbrev pub share_of : ℕ → ℕ → ℕ → ℕ
share_of total n s = total / n + (if nat_lt s (total % n) then 1 else 0)

-- What stands in for a field that isn't there.
abbrev pub no_field : FieldValue
no_field = record { name = []; floor = pos 0; ceiling = pos 0; value = pos 0 }

-- The field of a number.
abbrev pub field_at : SchemaValue → ℕ → FieldValue
field_at schema field = slice_index_or schema.fields field no_field

-- The rights of a kind on a field that a site begins with.
abbrev pub part_of : SchemaValue → ℕ → ℕ → Kind → ℕ
part_of schema site field kind = share_of (total_of (field_at schema field) kind) schema.sites site

-- What f gives at 0 to n - 1, added up.
abbrev pub sum_below : ℕ → (ℕ → ℕ) → ℕ
sum_below zero f = 0
sum_below (suc n) f = sum_below n f + f n

-- Floor, ceiling and value of a field.
abbrev pub bounds_of : FieldValue → ℤ × ℤ × ℤ
bounds_of f = (f.floor, f.ceiling, f.value)
