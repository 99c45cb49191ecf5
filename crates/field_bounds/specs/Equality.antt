-- Equality of schemas is an equivalence.
use Rattle.std.specs.Cmp.{IsEquivalence, IsPartialEquivalence, partial_equiv_from_equiv, on_equiv, and_equiv, nat_eq_equiv, int_eq_equiv}
use Rattle.std.specs.Cmp.Lexicographic.{lists_equiv, nat_list_eq_equiv}
use Rattle.field_bounds.specs.Schema.{FieldValue, SchemaValue, same_field, same_schema}

fields_equiv : IsEquivalence same_field
fields_equiv =
    and_equiv
    (and_equiv
    (and_equiv (on_equiv (λ (f : FieldValue). f.name) nat_list_eq_equiv) (on_equiv (λ (f : FieldValue). f.floor) int_eq_equiv))
    (on_equiv (λ (f : FieldValue). f.ceiling) int_eq_equiv))
    (on_equiv (λ (f : FieldValue). f.value) int_eq_equiv)

pub schemas_equiv : IsEquivalence same_schema
schemas_equiv =
    and_equiv (on_equiv (λ (s : SchemaValue). s.sites) nat_eq_equiv) (on_equiv (λ (s : SchemaValue). s.fields) (lists_equiv fields_equiv))

pub schemas_per : IsPartialEquivalence same_schema
schemas_per = partial_equiv_from_equiv schemas_equiv
