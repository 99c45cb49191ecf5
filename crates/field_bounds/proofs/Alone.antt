-- A schema that was read is within the limits.
use Rattle.std.proofs.Common.{◌≡◌, ℕ, ℤ, Bool, true, false, cond, List, [], length, Result, Ok, Err, refl}
use Rattle.std.specs.Prelude.{nat_lt, nat_le}
use Rattle.std.proofs.lemmas.Bool.{and_parts, leb-true}
use Rattle.serde_json.specs.Data.{Data}
use Rattle.field_bounds.specs.declared.fault.SchemaFault.{SchemaFault}
use Rattle.field_bounds.specs.declared.fault.SchemaFault.TheVariants.{SiteCount, FieldCount, TooLong}
use Rattle.field_bounds.specs.Schema.{FieldValue, SchemaValue, ◌>>=◌}
use Rattle.field_bounds.specs.Limits.{max_header, max_sites, max_fields, is_site_count, is_field_count, first_fault, unless, count_of, of_parts, IsSchema}
use Rattle.field_bounds.specs.Header.{parts_of, data_of, schema_of}
use Rattle.field_bounds.proofs.Kept.{IsSchema-of}

pub of_parts-limits : (sites : ℕ) (fields : List FieldValue) (s : SchemaValue) → of_parts sites fields ≡ Ok s → IsSchema s
unfolding of_parts
of_parts-limits sites fields s h = by (is_site_count sites) (is_field_count (length fields)) refl refl h
  where
    by : (some few : Bool) → is_site_count sites ≡ some → is_field_count (length fields) ≡ few
        → cond some (cond few (unless (first_fault [] fields) (record { sites = sites; fields = fields })) (Err FieldCount)) (Err SiteCount)
        ≡ Ok s → IsSchema s
    by true true some few made =
        let a = and_parts (nat_le 1 sites) (nat_le sites max_sites) some in
        let b = and_parts (nat_le 1 (length fields)) (nat_le (length fields) max_fields) few in
        IsSchema-of sites fields s (leb-true _ _ a.0) (leb-true _ _ a.1) (leb-true _ _ b.0) (leb-true _ _ b.1) made
    by true false some few made = absurd cc
    by false few some fits made = absurd cc

then_limits : (r : Result (ℤ × List FieldValue) SchemaFault) (s : SchemaValue) → (r >>= λ p. of_parts (count_of p.0) p.1) ≡ Ok s
    → IsSchema s
then_limits (Ok p) s h = of_parts-limits (count_of p.0) p.1 s h
then_limits (Err e) s h = absurd cc

data_limits : (r : Result Data SchemaFault) (s : SchemaValue) → (r >>= λ d. parts_of d >>= λ p. of_parts (count_of p.0) p.1) ≡ Ok s
    → IsSchema s
data_limits (Ok d) s h = then_limits (parts_of d) s h
data_limits (Err e) s h = absurd cc

pub schema_of-limits : (bytes : List ℕ) (s : SchemaValue) → schema_of bytes ≡ Ok s → IsSchema s
unfolding schema_of
schema_of-limits bytes s h = by (nat_lt max_header (length bytes)) h
  where
    by : (long : Bool) → cond long (Err TooLong) (data_of bytes >>= λ d. parts_of d >>= λ p. of_parts (count_of p.0) p.1) ≡ Ok s
        → IsSchema s
    by true h = absurd cc
    by false h = data_limits (data_of bytes) s h
