-- Fields by their names, and what the reader of fields reads.
use Rattle.std.proofs.Common.{◌≡◌, ℕ, zero, suc, ◌^◌, ◌<◌, ◌≤◌, ◌-◌, Bool, true, false, cond, eqb, ltb, List, [], ◌∷◌, ◌++◌, ◌||◌, length, get_or, take, drop, Option, Some, None, refl, sym, ap, subst, ◌∙◌, arith, inl, inr}
use Rattle.std.specs.Prelude.{position, if◌then◌else◌, nat_lt, bytes_eq, option_map}
use Rattle.std.specs.List.{position_or_len, AllByRecursion, list_any, list_all}
use Rattle.std.specs.Fmt.{decimal}
use Rattle.std.proofs.lemmas.Bool.{eqb-true, ltb-false, lt-ltb, le-ltb, ne_eqb, cond-true, cond-false, cases_lt, and_parts}
use Rattle.std.proofs.lemmas.Bool.Decides.{nat_tests}
use Rattle.std.proofs.lemmas.Option.{same_Some}
use Rattle.std.proofs.lemmas.List.{take-append-drop, take_all, length-drop}
use Rattle.std.proofs.lemmas.Slice.Eq.{bytes_eq-Decides}
use Rattle.std.proofs.lemmas.List.Quantifiers.{position-Some}
use Rattle.std.proofs.lemmas.List.Sums.{position_or_len_is}
use Rattle.field_bounds.specs.declared.id.FieldNo.{FieldNo}
use Rattle.field_bounds.specs.Schema.{FieldValue, SchemaValue}
use Rattle.field_bounds.specs.Limits.{is_name_byte, is_name, is_used, IsField, HasOwnNames, IsSchema}
use Rattle.field_bounds.specs.Parts.{no_field}
use Rattle.line_words.specs.Reading.{◌>>=◌, below}
use Rattle.line_words.proofs.Numbers.{bind_some}
use Rattle.line_words.proofs.SignedNumbers.{guard_some, chosen}
use Rattle.line_words.proofs.WordLemmas.{IsWord, decimal_word}
use Rattle.line_words.proofs.WordKinds.{below_takes, below_again}
use Rattle.entry_text.specs.Spelling.{field_text}
use Rattle.entry_text.specs.Ranges.{FieldFits}
use Rattle.entry_text.specs.Reading.{field_named, field_of}

-- ---- names

-- what a name is made of
name_byte : (b : ℕ) → is_name_byte b ≡ true → (48 ≤ b) × (b ≤ 122)
unfolding is_name_byte
name_byte b e = grind (arith, nat_tests)

abbrev IsNameByte : ℕ → Type 0
IsNameByte b = (48 ≤ b) × (b ≤ 122)

name_bytes : (w : List ℕ) → list_all is_name_byte w ≡ true → AllByRecursion IsNameByte w
name_bytes [] e = tt
name_bytes (b ∷ w) e =
    let p = and_parts (is_name_byte b) (list_all is_name_byte w) e in
    (name_byte b p.0, name_bytes w p.1)

name_is : (w : List ℕ) → is_name w ≡ true → AllByRecursion IsNameByte w
unfolding is_name
name_is w e = name_bytes w (and_parts _ (list_all is_name_byte w) e).1

field_is : (fs : List FieldValue) (i : ℕ) → AllByRecursion IsField fs → i < length fs
    → AllByRecursion IsNameByte (get_or fs i no_field).name
field_is [] i all lt = absurd (omega arith)
field_is (f ∷ fs) zero all lt = name_is f.name all.0.name
field_is (f ∷ fs) (suc i) all lt = field_is fs i all.1 (omega arith)

-- a name doesn't begin with the sign of a number
name_first : (w : List ℕ) → AllByRecursion IsNameByte w → get_or w 0 0 ≡ 35 → ⊥
name_first [] h e = omega arith
name_first (b ∷ w) h e = omega (arith, h.0)

name_word : (w : List ℕ) → AllByRecursion IsNameByte w → IsWord w
name_word [] h = tt
name_word (b ∷ w) h = ((omega (arith, h.0), omega (arith, h.0)), name_word w h.1)

-- ---- no two fields have one name

neither : (a b : Bool) → (a || b) ≡ false → (a ≡ false) × (b ≡ false)
neither false b e = (refl, e)
neither true b e = absurd cc

abbrev has_name : List ℕ → FieldValue → Bool
has_name name f = bytes_eq name f.name

any_front : (name : List ℕ) (fs gs : List FieldValue) → list_any (has_name name) (fs ++ gs) ≡ false → list_any (has_name name) fs ≡ false
any_front name [] gs e = refl
any_front name (f ∷ fs) gs e =
    let p = neither (has_name name f) (list_any (has_name name) (fs ++ gs)) e in
    rw (p.0, any_front name fs gs p.1) refl

any_last : (name : List ℕ) (fs : List FieldValue) (f : FieldValue) → list_any (has_name name) (fs ++ f ∷ []) ≡ false
    → has_name name f ≡ false
any_last name [] f e = (neither (has_name name f) false e).0
any_last name (g ∷ fs) f e = any_last name fs f (neither (has_name name g) (list_any (has_name name) (fs ++ f ∷ [])) e).1

-- a later field's name isn't one before
not_before : (before fs : List FieldValue) (i : ℕ) → HasOwnNames before fs → i < length fs
    → list_any (has_name (get_or fs i no_field).name) before ≡ false
unfolding is_used
not_before before [] i own lt = absurd (omega arith)
not_before before (f ∷ fs) zero own lt = own.0
not_before before (f ∷ fs) (suc i) own lt =
    any_front (get_or fs i no_field).name before (f ∷ []) (not_before (before ++ f ∷ []) fs i own.1 (omega arith))

own_name : (before fs : List FieldValue) (i k : ℕ) → HasOwnNames before fs → k < i → i < length fs
    → bytes_eq (get_or fs i no_field).name (get_or fs k no_field).name ≡ false
own_name before [] i k own less lt = absurd (omega arith)
own_name before (f ∷ fs) zero k own less lt = absurd (omega arith)
own_name before (f ∷ fs) (suc i) zero own less lt =
    any_last (get_or fs i no_field).name before f (not_before (before ++ f ∷ []) fs i own.1 (omega arith))
own_name before (f ∷ fs) (suc i) (suc k) own less lt = own_name (before ++ f ∷ []) fs i k own.1 (omega arith) (omega arith)

-- ---- a field by its name

mapped : {A B : Type 0} (f : A → B) (o : Option A) (y : B) → option_map f o ≡ Some y → (x : A) × (o ≡ Some x) × (f x ≡ y)
mapped f (Some x) y e = (x, refl, same_Some (f x) y e)
mapped f None y e = absurd cc

abbrev numbered : ℕ → FieldNo
numbered k = record { 0 = k }

pub named_is : (schema : SchemaValue) (w : List ℕ) (o : Option FieldNo)
    → option_map (λ n. n.0) o ≡ position (λ f. bytes_eq w f.name) schema.fields → o ≡ field_named schema w
named_is schema w None e = ap (λ (p : Option ℕ). option_map numbered p) e
named_is schema w (Some f) e = ap (λ (p : Option ℕ). option_map numbered p) e

named_takes : (schema : SchemaValue) (w : List ℕ) (f : FieldNo) → field_named schema w ≡ Some f → (f.0 < length schema.fields)
    × ((get_or schema.fields f.0 no_field).name ≡ w)
named_takes schema w f e =
    let fs = schema.fields in
    let b = mapped numbered (position (has_name w) fs) f e in
    let p = position-Some (has_name w) fs b.0 no_field b.1 in
    let k-is : b.0 ≡ f.0 = ap (λ (g : FieldNo). g.0) b.2 in
    let same : w ≡ (get_or fs b.0 no_field).name = (bytes_eq-Decides w (get_or fs b.0 no_field).name).0 p.1 in
    (subst (λ (k : ℕ). k < length fs) k-is p.0, subst (λ (k : ℕ). (get_or fs k no_field).name ≡ w) k-is (sym same))

named_again : (schema : SchemaValue) → IsSchema schema → (f : FieldNo) → f.0 < length schema.fields
    → field_named schema (get_or schema.fields f.0 no_field).name ≡ Some f
named_again schema is f lt =
    let fs = schema.fields in
    let w = (get_or fs f.0 no_field).name in
    let others : (k : ℕ) → k < f.0 → has_name w (get_or fs k no_field) ≡ false = λ k less. own_name [] fs f.0 k is.own_names less lt in
    let this : has_name w (get_or fs f.0 no_field) ≡ true = (bytes_eq-Decides w w).1 refl in
    let place : position_or_len (has_name w) fs ≡ f.0 = position_or_len_is (has_name w) fs f.0 no_field (omega arith) others (λ h. this) in
    ap (λ (n : ℕ). option_map numbered (cond (ltb n (length fs)) (Some n) None)) place
    ∙ ap (λ (o : Option ℕ). option_map numbered o) (cond-true (ltb f.0 (length fs)) _ _ (lt-ltb f.0 (length fs) lt))

-- ---- a field by either spelling

-- a field's number below the count has its name, and another is spelled by the number
pub in_schema : (schema : SchemaValue) (f : FieldNo) → f.0 < length schema.fields
    → field_text schema f ≡ (get_or schema.fields f.0 no_field).name
in_schema schema f lt = cond-true (ltb f.0 (length schema.fields)) _ _ (lt-ltb f.0 (length schema.fields) lt)

pub past_schema : (schema : SchemaValue) (f : FieldNo) → length schema.fields ≤ f.0 → field_text schema f ≡ 35 ∷ decimal f.0
past_schema schema f le = cond-false (ltb f.0 (length schema.fields)) _ _ (le-ltb f.0 (length schema.fields) le)

by_name : (schema : SchemaValue) → IsSchema schema → (w : List ℕ) (f : FieldNo) → field_named schema w ≡ Some f → FieldFits f
    × (w ≡ field_text schema f)
by_name schema is w f e =
    let t = named_takes schema w f e in
    (omega (arith, t.0, is.few_fields), sym t.1 ∙ sym (in_schema schema f t.0))

abbrev some_field : ℕ → Option FieldNo
some_field n = Some (record { 0 = n })

pub field_takes : (schema : SchemaValue) → IsSchema schema → (w : List ℕ) (f : FieldNo) → field_of schema w ≡ Some f → FieldFits f
    × (w ≡ field_text schema f)
unfolding field_of
field_takes schema is [] f e = by_name schema is [] f e
field_takes schema is (c ∷ w) f e =
    let count = length schema.fields in
    let by_number = λ (n : ℕ). if nat_lt n count then None else some_field n in
    elim (chosen (eqb c 35) (below (2 ^ 16) w >>= by_number) (field_named schema (c ∷ w)) (Some f) e) [
      | inl h ↦
          let b = bind_some (below (2 ^ 16) w) by_number f h.1 in
          let t = below_takes (2 ^ 16) w b.0 b.1 in
          let g = guard_some (ltb b.0 count) (some_field b.0) f b.2 in
          let n-is : b.0 ≡ f.0 = ap (λ (g : FieldNo). g.0) (same_Some _ _ g.1) in
          let le : count ≤ b.0 = ltb-false b.0 count g.0 in
          let lt : b.0 < 2 ^ 16 = t.0 in
          let c-is : c ≡ 35 = eqb-true c 35 h.0 in (
            omega arith,
            ap (λ (b : ℕ). b ∷ w) c-is ∙ ap (λ (l : List ℕ). 35 ∷ l) (t.1 ∙ ap decimal n-is)
                ∙ sym (past_schema schema f (omega arith)),
          )
      | inr h ↦ by_name schema is (c ∷ w) f h.1
    ]

pub plain_field : (schema : SchemaValue) (w : List ℕ) → (get_or w 0 0 ≡ 35 → ⊥) → field_of schema w ≡ field_named schema w
unfolding field_of
plain_field schema [] ne = refl
plain_field schema (c ∷ w) ne = cond-false (eqb c 35) _ _ (ne_eqb c 35 ne)

pub field_again : (schema : SchemaValue) → IsSchema schema → (f : FieldNo) → FieldFits f → field_of schema (field_text schema f) ≡ Some f
unfolding field_of
field_again schema is f fits =
    let fs = schema.fields in
    elim (cases_lt f.0 (length fs)) [
      | inl lt ↦ ap (field_of schema) (in_schema schema f lt)
          ∙ plain_field schema (get_or fs f.0 no_field).name (name_first (get_or fs f.0 no_field).name (field_is fs f.0 is.each lt))
          ∙ named_again schema is f lt
      | inr le ↦ ap (field_of schema) (past_schema schema f le)
          ∙ ap (λ (o : Option ℕ). o >>= λ n. if nat_lt n (length fs) then None else some_field n)
          (below_again (2 ^ 16) f.0 (omega arith) fits)
          ∙ cond-false (ltb f.0 (length fs)) _ _ (le-ltb f.0 (length fs) le)
    ]

pub field_word : (schema : SchemaValue) → IsSchema schema → (f : FieldNo) → FieldFits f → IsWord (field_text schema f)
field_word schema is f fits =
    let fs = schema.fields in
    elim (cases_lt f.0 (length fs)) [
      | inl lt ↦ subst IsWord (sym (in_schema schema f lt)) (name_word (get_or fs f.0 no_field).name (field_is fs f.0 is.each lt))
      | inr le ↦ subst IsWord (sym (past_schema schema f le)) ((omega arith, omega arith), decimal_word f.0 (omega arith))
    ]

-- a field's word in front, and what follows it
pub field_cut : (schema : SchemaValue) → IsSchema schema → (w : List ℕ) (i : ℕ) (f : FieldNo) → field_of schema (take i w) ≡ Some f
    → w ≡ field_text schema f ++ take (length w - i) (drop i w)
field_cut schema is w i f e =
    sym (take-append-drop i w) ∙ ap (λ (l : List ℕ). l ++ drop i w) (field_takes schema is (take i w) f e).1
    ∙ ap (λ (l : List ℕ). field_text schema f ++ l) (sym (take_all (length w - i) (drop i w) (omega (arith, length-drop i w))))

-- a text in front, and what follows it
pub text_cut : (w t : List ℕ) → bytes_eq (take (length t) w) t ≡ true → w ≡ t ++ take (length w - length t) (drop (length t) w)
text_cut w t e =
    let i = length t in
    sym (take-append-drop i w) ∙ ap (λ (l : List ℕ). l ++ drop i w) ((bytes_eq-Decides (take i w) t).0 e)
    ∙ ap (λ (l : List ℕ). t ++ l) (sym (take_all (length w - i) (drop i w) (omega (arith, length-drop i w))))
