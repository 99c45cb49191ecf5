-- What a schema is, and what a call that reads one gives (this project).
use Rattle.std.specs.Cmp.Lexicographic.{pointwise}
use Rattle.std.specs.Ordering.{int_eq}
use Rattle.std.specs.Prelude.{◌≡◌, ℕ, ℤ, Bool, ◌==◌, ◌&&◌, bytes_eq, List, Result, Ok, Err, string_bytes}
use Rattle.field_bounds.specs.declared.fault.SchemaFault.{SchemaFault}
use Rattle.field_bounds.specs.declared.fault.SchemaFault.TheVariants.{NotJson, Shape, SiteCount, FieldCount, Name, NameUsed, Bounds, NoMemory, TooLong}
use Rattle.field_bounds.specs.declared.field.FieldSpec.{FieldSpec}

-- A field, with its name as bytes.
pub record FieldValue : Type 0 where
  pub name : List ℕ
  pub floor : ℤ
  pub ceiling : ℤ
  pub value : ℤ

-- How many sites there are, and the fields in order.
pub record SchemaValue : Type 0 where
  pub sites : ℕ
  pub fields : List FieldValue

-- Whether two fields have the same name, floor, ceiling and value.
abbrev pub same_field : FieldValue → FieldValue → Bool
same_field f g =
    bytes_eq f.name g.name && int_eq f.floor g.floor && int_eq f.ceiling g.ceiling && int_eq f.value g.value

-- Whether two schemas have as many sites, and the same fields in the same order.
abbrev pub same_schema : SchemaValue → SchemaValue → Bool
same_schema a b = (a.sites == b.sites) && pointwise same_field a.fields b.fields

-- What the parts of a field tell.
abbrev pub spec_value : FieldSpec → FieldValue
spec_value f = record { name = string_bytes f.name; floor = f.floor; ceiling = f.ceiling; value = f.value }

-- One reading after another, up to the first fault.
infixl 10 ◌>>=◌
abbrev pub ◌>>=◌ : {A B : Type 0} → Result A SchemaFault → (A → Result B SchemaFault) → Result B SchemaFault
(Ok x) >>= f = f x
(Err e) >>= f = Err e

-- A call failed as reading fails, unless memory ran out, of which nothing can be said.
abbrev pub Fails : {Y : Type 0} → SchemaFault → Result Y SchemaFault → Type 0
Fails NoMemory read = Unit {0}
Fails NotJson read = read ≡ Err NotJson
Fails Shape read = read ≡ Err Shape
Fails SiteCount read = read ≡ Err SiteCount
Fails FieldCount read = read ≡ Err FieldCount
Fails Name read = read ≡ Err Name
Fails NameUsed read = read ≡ Err NameUsed
Fails Bounds read = read ≡ Err Bounds
Fails TooLong read = read ≡ Err TooLong

-- What a call returned, seen by view, is what reading gives, unless memory ran out.
abbrev pub Gives : {X Y : Type 0} → (X → Y) → Result X SchemaFault → Result Y SchemaFault → Type 0
Gives view (Ok x) read = read ≡ Ok (view x)
Gives view (Err e) read = Fails e read
