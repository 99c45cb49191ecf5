-- How the header line of a schema is spelled (this project).
use Rattle.std.specs.Prelude.{ℕ, ℤ, List, [], ◌∷◌, ◌++◌, codes}
use Rattle.std.specs.List.{flat_map}
use Rattle.std.specs.Fmt.{decimal, signed_decimal}
use Rattle.field_bounds.specs.Schema.{FieldValue, SchemaValue}

-- A member of an object whose value is a whole number: what stands in front of it, and the number.
abbrev pub number_text : List ℕ → ℤ → List ℕ
number_text front number = front ++ signed_decimal number

-- A field, as an object of JSON. Its name needs no escape: its bytes are `a-z0-9_`.
abbrev pub field_text : FieldValue → List ℕ
field_text f =
    codes "{\"name\":\"" ++ (f.name ++ (number_text (codes "\",\"floor\":") f.floor
    ++ (number_text (codes ",\"ceiling\":") f.ceiling ++ (number_text (codes ",\"value\":") f.value ++ codes "}"))))

-- Fields, each behind a comma (44).
abbrev pub others_text : List FieldValue → List ℕ
others_text fs = flat_map (λ f. 44 ∷ field_text f) fs

-- Fields, with a comma between them.
abbrev pub fields_text : List FieldValue → List ℕ
fields_text [] = []
fields_text (f ∷ fs) = field_text f ++ others_text fs

-- The header line of a schema, without a line feed: the number of sites and the fields in order.
abbrev pub header_text : SchemaValue → List ℕ
header_text schema = codes "{\"sites\":" ++ (decimal schema.sites ++ (codes ",\"fields\":[" ++ (fields_text schema.fields ++ codes "]}")))
