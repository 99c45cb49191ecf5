-- A schema that settles logs has no fault.
use Rattle.std.proofs.Common.{◌≡◌, ℕ, zero, suc, ◌<◌, true, false, List, [], ◌∷◌, ◌++◌, length, get_or, Option, Some, None, Ok, refl, sym, ◌∙◌, ap, subst, arith}
use Rattle.std.specs.Prelude.{ℤ, pos, ◌≤ℤ◌, neg_ℤ, int_le}
use Rattle.std.specs.List.{AllByRecursion, slice_get}
use Rattle.std.proofs.lemmas.Bool.{le-leb}
use Rattle.std.proofs.lemmas.Int.{ints}
use Rattle.std.proofs.lemmas.Option.{get_or_from_slice_get}
use Rattle.field_bounds.specs.declared.fault.SchemaFault.{SchemaFault}
use Rattle.field_bounds.specs.declared.fault.SchemaFault.TheVariants.{NoMemory}
use Rattle.field_bounds.specs.Schema.{FieldValue, SchemaValue, Fails}
use Rattle.field_bounds.specs.Limits.{max_quantity, max_sites, max_fields, is_name, has_bounds, is_used, field_fault, or_else, first_fault, of_parts, IsField, HasOwnNames, IsSchema}
use Rattle.field_bounds.specs.Parts.{field_at, no_field}
use Rattle.kept_records.specs.declared.record.Record.{Record}
use Rattle.world_logs.specs.declared.field_state.FieldState.{FieldState}
use Rattle.world_logs.specs.Logs.{AreLawful, AcceptedWithin, value_in, floor_in, ceiling_in}
use Rattle.world_logs.specs.States.{state_of, AreStates, with_state, Settles}
use Rattle.world_logs.proofs.Conserved.{is_conserved, bounded}

-- ---- a schema within its limits has no fault

le_true : (a b : ℤ) → a ≤ℤ b → int_le a b ≡ true
le_true a b h = grind (arith, ints)

bounds_true : (f : FieldValue) → IsField f → has_bounds f ≡ true
unfolding has_bounds
bounds_true f is =
    rw (
      le_true (neg_ℤ (pos max_quantity)) f.floor is.least,
      le_true f.floor f.value is.floor,
      le_true f.value f.ceiling is.ceiling,
      le_true f.ceiling (pos max_quantity) is.most,
    ) refl

none_of : (before : List FieldValue) (f : FieldValue) → IsField f → is_used before f.name ≡ false → field_fault before f ≡ None
unfolding field_fault
none_of before f is own = let named : is_name f.name ≡ true = is.name in rw (named, own, bounds_true f is) refl

none_first : (before fs : List FieldValue) → AllByRecursion IsField fs → HasOwnNames before fs → first_fault before fs ≡ None
none_first before [] each own = refl
none_first before (f ∷ fs) each own =
    ap (λ (o : Option SchemaFault). or_else o (first_fault (before ++ f ∷ []) fs)) (none_of before f each.0 own.0)
    ∙ none_first (before ++ f ∷ []) fs each.1 own.1

pub faultless : (schema : SchemaValue) → IsSchema schema → of_parts schema.sites schema.fields ≡ Ok schema
unfolding of_parts
faultless schema good =
    rw (
      le-leb 1 schema.sites good.some_site,
      le-leb schema.sites max_sites good.few_sites,
      le-leb 1 (length schema.fields) good.some_field,
      le-leb (length schema.fields) max_fields good.few_fields,
      none_first [] schema.fields good.each good.own_names,
    ) refl

-- so a fault is want of memory
pub only_memory : {X : Type 0} (e : SchemaFault) (x : X) → Fails e (Ok x) → e ≡ NoMemory
only_memory NoMemory x h = refl
only_memory e x h = absurd cc

-- ---- fields of the same names

-- two lists of fields have the same names
abbrev pub SameNames : List FieldValue → List FieldValue → Type 0
SameNames [] [] = Unit {0}
SameNames (f ∷ fs) (g ∷ gs) = (f.name ≡ g.name) × SameNames fs gs
SameNames fs gs = ⊥

same_at : (fs gs : List FieldValue) → length fs ≡ length gs
    → ((i : ℕ) → i < length fs → (get_or fs i no_field).name ≡ (get_or gs i no_field).name) → SameNames fs gs
same_at [] [] count each = tt
same_at (f ∷ fs) (g ∷ gs) count each =
    (each 0 (omega arith), same_at fs gs (omega (arith, count)) (λ i below. each (suc i) (omega (arith, below))))
same_at fs gs count each = absurd (omega (arith, count))

same_more : (as1 bs : List FieldValue) (f g : FieldValue) → SameNames as1 bs → f.name ≡ g.name → SameNames (as1 ++ f ∷ []) (bs ++ g ∷ [])
same_more [] [] f g same name = (name, tt)
same_more (a ∷ as1) (b ∷ bs) f g same name = (same.0, same_more as1 bs f g same.1 name)
same_more as1 bs f g same name = absurd same

used_same : (as1 bs : List FieldValue) (name : List ℕ) → SameNames as1 bs → is_used as1 name ≡ is_used bs name
unfolding is_used
used_same [] [] name same = refl
used_same (a ∷ as1) (b ∷ bs) name same = rw (same.0, used_same as1 bs name same.1) refl
used_same as1 bs name same = absurd same

own_same : (as1 bs fs gs : List FieldValue) → SameNames as1 bs → SameNames fs gs → HasOwnNames bs gs → HasOwnNames as1 fs
own_same as1 bs [] [] before same own = tt
own_same as1 bs (f ∷ fs) (g ∷ gs) before same own = (
  ap (is_used as1) same.0 ∙ used_same as1 bs g.name before ∙ own.0,
  own_same (as1 ++ f ∷ []) (bs ++ g ∷ []) fs gs (same_more as1 bs f g before same.0) same.1 own.1,
)
own_same as1 bs fs gs before same own = absurd same

-- ---- each field of the new schema

all_at : (fs : List FieldValue) → ((i : ℕ) → i < length fs → IsField (get_or fs i no_field)) → AllByRecursion IsField fs
all_at [] each = tt
all_at (f ∷ fs) each = (each 0 (omega arith), all_at fs (λ i below. each (suc i) (omega (arith, below))))

field_of_all : (fs : List FieldValue) → AllByRecursion IsField fs → (i : ℕ) → i < length fs → IsField (get_or fs i no_field)
field_of_all [] each i below = absurd (omega (arith, below))
field_of_all (f ∷ fs) each zero below = each.0
field_of_all (f ∷ fs) each (suc i) below = field_of_all fs each.1 i (omega (arith, below))

module _ (schema : SchemaValue) (good : IsSchema schema) (logs : List (List Record)) (new : SchemaValue)
    (bounded : (f : ℕ) → f < length schema.fields
    → (floor_in schema logs f ≤ℤ value_in schema logs f) × (value_in schema logs f ≤ℤ ceiling_in schema logs f))
    (settles : Settles schema logs new) where
  field_is : (f : ℕ) → f < length schema.fields → IsField (with_state (field_at schema f) (state_of schema logs f))
  field_is f field_in =
      let was = field_of_all schema.fields good.each f field_in in
      record {
        name = was.name;
        least = omega (arith, ints, was.least);
        floor = (bounded f field_in).0;
        ceiling = (bounded f field_in).1;
        most = omega (arith, ints, was.most);
      }

  -- a schema that settles lies within the limits
  pub settled_is_schema : IsSchema new
  settled_is_schema =
      record {
        some_site = omega (arith, settles.sites, good.some_site);
        few_sites = omega (arith, settles.sites, good.few_sites);
        some_field = omega (arith, settles.count, good.some_field);
        few_fields = omega (arith, settles.count, good.few_fields);
        each = all_at new.fields
            (λ i below. let field_in : i < length schema.fields = omega (arith, below, settles.count) in
            subst IsField (sym (settles.each i field_in)) (field_is i field_in));
        own_names = own_same [] [] new.fields schema.fields tt
            (same_at new.fields schema.fields settles.count
            (λ i below. ap (λ (f : FieldValue). f.name) (settles.each i (omega (arith, below, settles.count)))))
            good.own_names;
      }

-- fields that begin at the states of logs settle them
pub settles_at : (schema : SchemaValue) (logs : List (List Record)) (states : List FieldState) (new : SchemaValue)
    → new.sites ≡ schema.sites → length new.fields ≡ length schema.fields → AreStates schema logs states
    → ((f : ℕ) (state : FieldState) → slice_get states f ≡ Some state
    → slice_get new.fields f ≡ Some (with_state (field_at schema f) state))
    → Settles schema logs new
settles_at schema logs states new sites count are each =
    record {
      sites = sites;
      count = count;
      each = λ f field_in.
          get_or_from_slice_get new.fields f (with_state (field_at schema f) (state_of schema logs f)) no_field
          (each f (state_of schema logs f) (are.each f field_in));
    }

-- so making their schema has no fault
pub settled_is_faultless : (schema : SchemaValue) → IsSchema schema → (logs : List (List Record)) → AreLawful schema logs
    → AcceptedWithin schema logs → (new : SchemaValue) → Settles schema logs new → of_parts new.sites new.fields ≡ Ok new
settled_is_faultless schema good logs lawful within new settles =
    faultless new (settled_is_schema schema good logs new
    (λ f field_in. bounded schema logs (is_conserved schema good logs lawful within) f field_in) settles)
