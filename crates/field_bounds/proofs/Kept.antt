-- What a schema keeps, and that it is within the limits.
use Rattle.std.proofs.Common.{◌≡◌, ℕ, ◌≤◌, ◌≤ℤ◌, Bool, true, false, cond, not, ◌&&◌, List, [], ◌∷◌, ◌++◌, length, Option, Some, None, Ok, String, string_bytes, bytes_eq, option_map, ◌+◌, ℤ, position, slice_get, slice_index_or, int_le, T, refl, sym, ap, subst, ◌∙◌}
use Rattle.std.specs.List.{AllByRecursion, prefix_len}
use Rattle.std.specs.Map.{keys_of}
use Rattle.std.specs.Int.Signed.{le_z_yes}
use Rattle.std.specs.declared.alloc.Global.{Global}
use Rattle.std.proofs.lemmas.List.{length-map}
use Rattle.std.proofs.lemmas.Option.{get_or_from_slice_get, slice_get-map}
use Rattle.field_bounds.specs.declared.schema.FieldBounds.{FieldBounds}
use Rattle.field_bounds.specs.declared.fault.SchemaFault.{SchemaFault}
use Rattle.field_bounds.specs.declared.fault.SchemaFault.TheVariants.{Name, NameUsed, Bounds}
use Rattle.field_bounds.specs.Schema.{FieldValue, SchemaValue}
use Rattle.field_bounds.specs.Limits.{max_sites, max_fields, is_name, is_used, has_bounds, field_fault, first_fault, or_else, unless, IsField, HasOwnNames, IsSchema}
use Rattle.field_bounds.specs.Kept.{entry_value, stored_values}

pub field_is : (es : List (String Global × FieldBounds)) (i : ℕ) (e : String Global × FieldBounds) (d : FieldValue)
    → slice_get es i ≡ Some e → slice_index_or (stored_values es) i d ≡ entry_value e
field_is es i e d h = get_or_from_slice_get (stored_values es) i (entry_value e) d
    (slice_get-map entry_value es i ∙ ap (λ o. option_map entry_value o) h)

prefix_len-kept : (p : List ℕ → Bool) (es : List (String Global × FieldBounds))
    → prefix_len (λ k. not (p (string_bytes k))) (keys_of es) ≡ prefix_len (λ f. not (p f.name)) (stored_values es)
prefix_len-kept p [] = refl
prefix_len-kept p (e ∷ es) = ap (λ n. cond (not (p (string_bytes e.0))) (1 + n) 0) (prefix_len-kept p es)

pub place_is : (name : List ℕ) (es : List (String Global × FieldBounds))
    → position (λ k. bytes_eq name (string_bytes k)) (keys_of es) ≡ position (λ f. bytes_eq name f.name) (stored_values es)
place_is name es = rw (prefix_len-kept (bytes_eq name) es, length-map es (λ e. e.0), length-map es entry_value) refl

-- ---- no fault, so within the limits

no_fault : (a b : Option SchemaFault) → or_else a b ≡ None → (a ≡ None) × (b ≡ None)
no_fault None b h = (refl, h)
no_fault (Some e) b h = absurd cc

both : (a b : Bool) → (a && b) ≡ true → (a ≡ true) × (b ≡ true)
both true b h = (refl, h)
both false b h = absurd cc

ordered : (a b : ℤ) → int_le a b ≡ true → a ≤ℤ b
ordered a b h = le_z_yes (subst T (sym h) tt)

-- what a field without a fault is
field_passed : (before : List FieldValue) (f : FieldValue) → field_fault before f ≡ None → (is_name f.name ≡ true)
    × (is_used before f.name ≡ false) × (has_bounds f ≡ true)
unfolding field_fault
field_passed before f h = by (is_name f.name) (is_used before f.name) (has_bounds f) h
  where
    by : (named used bounded : Bool) → cond named (cond used (Some NameUsed) (cond bounded None (Some Bounds))) (Some Name) ≡ None
        → (named ≡ true) × (used ≡ false) × (bounded ≡ true)
    by true false true h = (refl, refl, refl)
    by true false false h = absurd cc
    by true true bounded h = absurd cc
    by false used bounded h = absurd cc

IsField-from : (before : List FieldValue) (f : FieldValue) → field_fault before f ≡ None → IsField f
unfolding has_bounds
IsField-from before f h =
    let p = field_passed before f h in
    let b0 = both _ _ p.2 in
    let b1 = both _ _ b0.0 in
    let b2 = both _ _ b1.0 in
    record { name = p.0; least = ordered _ _ b2.0; floor = ordered _ _ b2.1; ceiling = ordered _ _ b1.1; most = ordered _ _ b0.1 }

all_pass : (before fs : List FieldValue) → first_fault before fs ≡ None → AllByRecursion IsField fs × HasOwnNames before fs
all_pass before [] h = (tt, tt)
all_pass before (f ∷ fs) h =
    let p = no_fault (field_fault before f) (first_fault (before ++ f ∷ []) fs) h in
    let rest = all_pass (before ++ f ∷ []) fs p.1 in
    ((IsField-from before f p.0, rest.0), ((field_passed before f p.0).1, rest.1))

kept_all : {A : Type 0} (o : Option SchemaFault) (x y : A) → unless o x ≡ Ok y → (o ≡ None) × (x ≡ y)
kept_all None x y h = (refl, cc)
kept_all (Some e) x y h = absurd cc

-- what the limits let pass is within them
pub IsSchema-of : (sites : ℕ) (fs : List FieldValue) (s : SchemaValue) → 1 ≤ sites → sites ≤ max_sites → 1 ≤ length fs
    → length fs ≤ max_fields → unless (first_fault [] fs) (record { sites = sites; fields = fs }) ≡ Ok s → IsSchema s
IsSchema-of sites fs s some few some_field few_fields h =
    let made : SchemaValue = record { sites = sites; fields = fs } in
    let p = kept_all (first_fault [] fs) made s h in
    let q = all_pass [] fs p.0 in
    subst IsSchema p.1 (record {
      some_site = some;
      few_sites = few;
      some_field = some_field;
      few_fields = few_fields;
      each = q.0;
      own_names = q.1;
    })

made_of : {A B : Type 0} (g : A → B) (o : Option SchemaFault) (x y : A) → unless o x ≡ Ok y → unless o (g x) ≡ Ok (g y)
made_of g None x y h = let same : x ≡ y = cc in ap (λ z. Ok (g z)) same
made_of g (Some e) x y h = absurd cc

pub IsSchema-from : (sites : ℕ) (fs kept : List FieldValue) → 1 ≤ sites → sites ≤ max_sites → 1 ≤ length fs → length fs ≤ max_fields
    → unless (first_fault [] fs) fs ≡ Ok kept → IsSchema (record { sites = sites; fields = kept })
IsSchema-from sites fs kept some few some_field few_fields h =
    let of : List FieldValue → SchemaValue = λ (k : List FieldValue). record { sites = sites; fields = k } in
    IsSchema-of sites fs (of kept) some few some_field few_fields (made_of of (first_fault [] fs) fs kept h)
