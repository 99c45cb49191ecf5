-- The limits of a schema, and the first fault of the parts of one (this project).
use Rattle.std.specs.Prelude.{◌≡◌, ℕ, ◌≤◌, ◌≤ℤ◌, ℤ, pos, negsuc, neg_ℤ, int_le, List, [], ◌∷◌, ◌++◌, length, Bool, false, ◌&&◌, ◌||◌, ◌==◌, nat_le, bytes_eq, Result, Ok, Err, Option, Some, None, if◌then◌else◌, IsTrue}
use Rattle.std.specs.List.{list_all, list_any, AllByRecursion}
use Rattle.field_bounds.specs.declared.fault.SchemaFault.{SchemaFault}
use Rattle.field_bounds.specs.declared.fault.SchemaFault.TheVariants.{SiteCount, FieldCount, Name, NameUsed, Bounds}
use Rattle.field_bounds.specs.declared.limits.TheConstants.{MAX_HEADER}
use Rattle.field_bounds.specs.Schema.{FieldValue, SchemaValue}

-- The most bytes of a header line, sites, fields and bytes of a name, and the greatest floor, ceiling
-- or value without its sign.
abbrev pub max_header : ℕ
max_header = MAX_HEADER

abbrev pub max_sites : ℕ
max_sites = 64

abbrev pub max_fields : ℕ
max_fields = 256

abbrev pub max_name : ℕ
max_name = 32

abbrev pub max_quantity : ℕ
max_quantity = 1_000_000_000_000_000

-- A name is 1 to 32 bytes of `a-z0-9_`.
unfoldable pub is_name_byte : ℕ → Bool
is_name_byte b = (nat_le 97 b && nat_le b 122) || (nat_le 48 b && nat_le b 57) || (b == 95)

unfoldable pub is_name_length : ℕ → Bool
is_name_length n = nat_le 1 n && nat_le n max_name

unfoldable pub is_name : List ℕ → Bool
is_name bytes = is_name_length (length bytes) && list_all is_name_byte bytes

-- The floor is at most the value and the value at most the ceiling, all within the greatest quantity.
unfoldable pub has_bounds : FieldValue → Bool
has_bounds f = int_le (neg_ℤ (pos max_quantity)) f.floor && int_le f.floor f.value && int_le f.value f.ceiling
    && int_le f.ceiling (pos max_quantity)

-- A name stands among the fields before.
unfoldable pub is_used : List FieldValue → List ℕ → Bool
is_used before name = list_any (λ g. bytes_eq name g.name) before

-- The first fault of a field after those before it: its name, its name used already, its bounds.
unfoldable pub field_fault : List FieldValue → FieldValue → Option SchemaFault
field_fault before f =
    if is_name f.name then (if is_used before f.name then Some NameUsed else (if has_bounds f then None else Some Bounds)) else Some Name

-- The first of two faults.
abbrev pub or_else : Option SchemaFault → Option SchemaFault → Option SchemaFault
or_else None later = later
or_else (Some fault) later = Some fault

-- The first fault of fields after those before them, field by field.
abbrev pub first_fault : List FieldValue → List FieldValue → Option SchemaFault
first_fault before [] = None
first_fault before (f ∷ fs) = or_else (field_fault before f) (first_fault (before ++ f ∷ []) fs)

-- A value, unless there is a fault.
abbrev pub unless : {A : Type 0} → Option SchemaFault → A → Result A SchemaFault
unless None x = Ok x
unless (Some fault) x = Err fault

-- A number of sites, which is 0 below 0.
abbrev pub count_of : ℤ → ℕ
count_of (pos n) = n
count_of (negsuc n) = 0

-- There is a site, and no more than the most.
abbrev pub is_site_count : ℕ → Bool
is_site_count n = nat_le 1 n && nat_le n max_sites

abbrev pub is_field_count : ℕ → Bool
is_field_count n = nat_le 1 n && nat_le n max_fields

-- The schema of so many sites and these fields, or the first fault: the sites, the fields' number,
-- then the fields in order.
unfoldable pub of_parts : ℕ → List FieldValue → Result SchemaValue SchemaFault
of_parts sites fields =
    if is_site_count sites
    then (if is_field_count (length fields) then unless (first_fault [] fields) (record { sites = sites; fields = fields })
    else Err FieldCount)
    else Err SiteCount

-- What is so of each field of a schema.
pub record IsField (f : FieldValue) : Type 0 where
  pub name : IsTrue (is_name f.name)
  pub least : neg_ℤ (pos max_quantity) ≤ℤ f.floor
  pub floor : f.floor ≤ℤ f.value
  pub ceiling : f.value ≤ℤ f.ceiling
  pub most : f.ceiling ≤ℤ pos max_quantity

-- No name stands among those before it.
abbrev pub HasOwnNames : List FieldValue → List FieldValue → Type 0
HasOwnNames before [] = Unit {0}
HasOwnNames before (f ∷ fs) = (is_used before f.name ≡ false) × HasOwnNames (before ++ f ∷ []) fs

-- What is so of each schema.
pub record IsSchema (s : SchemaValue) : Type 0 where
  pub some_site : 1 ≤ s.sites
  pub few_sites : s.sites ≤ max_sites
  pub some_field : 1 ≤ length s.fields
  pub few_fields : length s.fields ≤ max_fields
  pub each : AllByRecursion IsField s.fields
  pub own_names : HasOwnNames [] s.fields
