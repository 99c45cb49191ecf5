-- Schemas are told to be equal exactly where they are the same.
use Rattle.std.proofs.Common.{◌≡◌, Bool, true, false, ◌&&◌, List, [], ◌∷◌, eqb, refl, subst, String, string_eq, bytes_eq}
use Rattle.std.proofs.lemmas.Bool.{and_parts, eqb-true, eq-eqb}
use Rattle.std.proofs.lemmas.Slice.Eq.{bytes_eq-Decides}
use Rattle.std.specs.Bool.{Decides}
use Rattle.std.specs.Cmp.{signed_Decides}
use Rattle.std.specs.Cmp.Lexicographic.{pointwise, pointwise_decides}
use Rattle.std.specs.Ordering.{int_eq}
use Rattle.std.specs.declared.alloc.Global.{Global}
use Rattle.field_bounds.specs.declared.schema.FieldBounds.{FieldBounds}
use Rattle.field_bounds.specs.Schema.{FieldValue, SchemaValue, same_field, same_schema}
use Rattle.field_bounds.specs.Kept.{stored_values}

field_is_itself : (f : FieldValue) → same_field f f ≡ true
field_is_itself f = rw (
  (bytes_eq-Decides f.name f.name).1 refl,
  (signed_Decides f.floor f.floor).1 refl,
  (signed_Decides f.ceiling f.ceiling).1 refl,
  (signed_Decides f.value f.value).1 refl,
) refl

same_fields : (f g : FieldValue) → same_field f g ≡ true → f ≡ g
same_fields f g h =
    let all = and_parts (bytes_eq f.name g.name && int_eq f.floor g.floor && int_eq f.ceiling g.ceiling) (int_eq f.value g.value) h in
    let three = and_parts (bytes_eq f.name g.name && int_eq f.floor g.floor) (int_eq f.ceiling g.ceiling) all.0 in
    let two = and_parts (bytes_eq f.name g.name) (int_eq f.floor g.floor) three.0 in
    let name = (bytes_eq-Decides f.name g.name).0 two.0 in
    let floor = (signed_Decides f.floor g.floor).0 two.1 in
    let ceiling = (signed_Decides f.ceiling g.ceiling).0 three.1 in
    let value = (signed_Decides f.value g.value).0 all.1 in
    let made : ◌≡◌ {A = FieldValue} (record { name = f.name; floor = f.floor; ceiling = f.ceiling; value = f.value })
    (record { name = g.name; floor = g.floor; ceiling = g.ceiling; value = g.value }) = cc in
    made

field_decides : (f g : FieldValue) → Decides (same_field f g) (f ≡ g)
field_decides f g = (same_fields f g, λ is. subst (λ (x : FieldValue). same_field f x ≡ true) is (field_is_itself f))

schema_is_itself : (a : SchemaValue) → same_schema a a ≡ true
schema_is_itself a = rw (eq-eqb a.sites a.sites refl, (pointwise_decides field_decides a.fields a.fields).1 refl) refl

same_schemas : (a b : SchemaValue) → same_schema a b ≡ true → a ≡ b
same_schemas a b h =
    let parts = and_parts (eqb a.sites b.sites) (pointwise same_field a.fields b.fields) h in
    let sites = eqb-true a.sites b.sites parts.0 in
    let fields = (pointwise_decides field_decides a.fields b.fields).0 parts.1 in
    let made : ◌≡◌ {A = SchemaValue} (record { sites = a.sites; fields = a.fields }) (record { sites = b.sites; fields = b.fields }) = cc in
    made

-- equal schemas are the same, and the same schema is equal to itself
pub schema_decides : (a b : SchemaValue) → Decides (same_schema a b) (a ≡ b)
schema_decides a b = (same_schemas a b, λ is. subst (λ (x : SchemaValue). same_schema a x ≡ true) is (schema_is_itself a))

-- what is kept of two fields is told equal where the fields are
abbrev pub kept_alike : String Global × FieldBounds → String Global × FieldBounds → Bool
kept_alike e f = string_eq e.0 f.0 && (int_eq e.1.floor f.1.floor && (int_eq e.1.ceiling f.1.ceiling && int_eq e.1.value f.1.value))

grouped : (a b c d : Bool) → (a && (b && (c && d))) ≡ (a && b && c && d)
grouped false b c d = refl
grouped true false c d = refl
grouped true true c d = refl

pub kept_same : (es fs : List (String Global × FieldBounds))
    → pointwise kept_alike es fs ≡ pointwise same_field (stored_values es) (stored_values fs)
kept_same [] [] = refl
kept_same [] (f ∷ fs) = refl
kept_same (e ∷ es) [] = refl
kept_same (e ∷ es) (f ∷ fs) =
    let here = grouped (string_eq e.0 f.0) (int_eq e.1.floor f.1.floor) (int_eq e.1.ceiling f.1.ceiling) (int_eq e.1.value f.1.value) in
    rw (here, kept_same es fs) refl

-- so where the numbers of sites are equal, schemas are told equal by their fields
pub alike_is_same : (a b : SchemaValue) (es fs : List (String Global × FieldBounds)) → a.sites ≡ b.sites → a.fields ≡ stored_values es
    → b.fields ≡ stored_values fs → pointwise kept_alike es fs ≡ same_schema a b
alike_is_same a b es fs sites here there = rw (eq-eqb a.sites b.sites sites, here, there) (kept_same es fs)
