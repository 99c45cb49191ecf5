-- Reading a header: one JSON object with exactly the keys `sites` and `fields`, each field an object
-- with exactly the keys `name`, `floor`, `ceiling` and `value` (this project). What the bytes are as
-- JSON is what `serde_json` reads.
use Rattle.std.specs.Prelude.{ℕ, suc, ℤ, List, [], ◌∷◌, length, codes, nat_lt, ◌==◌, Result, Ok, Err, option_and_then, ok_or, if◌then◌else◌, ⊤}
use Rattle.std.specs.Str.{is_utf8}
use Rattle.serde_json.specs.Data.{Data, Items, no_items, item, Members, no_members, member}
use Rattle.serde_json.specs.Read.{read}
use Rattle.serde_json.specs.Find.{get, as_i64, as_number, as_str, as_array, as_object}
use Rattle.field_bounds.specs.declared.fault.SchemaFault.{SchemaFault}
use Rattle.field_bounds.specs.declared.fault.SchemaFault.TheVariants.{NotJson, Shape, TooLong}
use Rattle.field_bounds.specs.Schema.{FieldValue, SchemaValue, ◌>>=◌}
use Rattle.field_bounds.specs.Limits.{max_header, count_of, of_parts}

-- How many keys an object has.
abbrev pub members_len : Members → ℕ
members_len no_members = 0
members_len (member k d ms) = suc (members_len ms)

-- A test that answers nothing more.
abbrev pub unit_of : {A : Type 0} → Result A SchemaFault → Result ⊤ SchemaFault
unit_of (Ok x) = Ok tt
unit_of (Err e) = Err e

-- The members of an object that has so many keys.
abbrev pub members_of_size : ℕ → Data → Result Members SchemaFault
members_of_size n d = do
  ms ← ok_or (as_object d) Shape
  if members_len ms == n then Ok ms else Err Shape

-- What stands at a key.
abbrev pub member_at : List ℕ → Data → Result Data SchemaFault
member_at key d = ok_or (get key d) Shape

-- The whole number at a key, which fits 64 bits with its sign.
unfoldable pub whole_at : List ℕ → Data → Result ℤ SchemaFault
whole_at key d = do
  found ← member_at key d
  ok_or (option_and_then as_i64 (as_number found)) Shape

-- The string at a key.
unfoldable pub text_at : List ℕ → Data → Result (List ℕ) SchemaFault
text_at key d = do
  found ← member_at key d
  ok_or (as_str found) Shape

-- A field that an object tells.
unfoldable pub field_of : Data → Result FieldValue SchemaFault
field_of d = do
  ms ← members_of_size 4 d
  name ← text_at (codes "name") d
  floor ← whole_at (codes "floor") d
  ceiling ← whole_at (codes "ceiling") d
  value ← whole_at (codes "value") d
  Ok (record { name = name; floor = floor; ceiling = ceiling; value = value })

-- The fields that an array tells, or the first fault.
unfoldable pub fields_of : Items → Result (List FieldValue) SchemaFault
fields_of no_items = Ok []
fields_of (item d ds) = do
  first ← field_of d
  others ← fields_of ds
  Ok (first ∷ others)

-- The number of sites and the fields that an object tells.
unfoldable pub parts_of : Data → Result (ℤ × List FieldValue) SchemaFault
parts_of d = do
  ms ← members_of_size 2 d
  sites ← whole_at (codes "sites") d
  found ← member_at (codes "fields") d
  items ← ok_or (as_array found) Shape
  fields ← fields_of items
  Ok (sites, fields)

-- What `serde_json` reads, where the bytes are a text.
unfoldable pub data_of : List ℕ → Result Data SchemaFault
data_of bytes = if is_utf8 bytes then ok_or (read bytes) NotJson else Err NotJson

-- The schema that a header tells, or the first fault: too long, no JSON, another shape, then those
-- of its parts.
unfoldable pub schema_of : List ℕ → Result SchemaValue SchemaFault
schema_of bytes =
    if nat_lt max_header (length bytes) then Err TooLong
    else (data_of bytes >>= λ d. parts_of d >>= λ p. of_parts (count_of p.0) p.1)
