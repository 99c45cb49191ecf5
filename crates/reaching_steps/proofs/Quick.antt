-- What is known without a look at the whole trace.
use Rattle.std.proofs.Common.{◌≡◌, ℕ, zero, suc, ◌+◌, ◌<◌, ◌≤◌, Bool, true, false, not, cond, leb, eqb, List, [], ◌∷◌, length, Some, None, refl, sym, ap, arith, inl, inr}
use Rattle.std.specs.Prelude.{is_none}
use Rattle.std.proofs.lemmas.Bool.{cases_Bool, and_parts, leb-true}
use Rattle.field_bounds.specs.declared.id.FieldNo.{FieldNo}
use Rattle.field_bounds.specs.declared.entry.Entry.{Entry}
use Rattle.field_bounds.specs.declared.entry.Refusal.TheVariants.{Down, NoField}
use Rattle.field_bounds.specs.declared.entry.Reply.{Reply}
use Rattle.field_bounds.specs.declared.entry.Reply.TheVariants.{Begun}
use Rattle.field_bounds.specs.Schema.{SchemaValue}
use Rattle.field_bounds.specs.declared.kind.Kind.TheVariants.{Lower, Raise}
use Rattle.field_bounds.specs.Effects.{fresh, share}
use Rattle.field_bounds.specs.Owed.{place, shares_of, shares_at, first, when, is_up, count_since, count_after, is_begun_reply, max_number}
use Rattle.field_bounds.specs.Central.{own, at_site}
use Rattle.reaching_steps.specs.Reach.{least, is_down, has_no_number}
use Rattle.reaching_steps.proofs.Reading.{own_few}

-- ---- a site that tells its share is up

some_up : (up missing : Bool) (x y : ℕ × ℕ)
    → Some x ≡ cond (is_none (first (when (not up) Down ∷ when missing NoField ∷ []))) (Some y) None → false ≡ not up
some_up true missing x y h = refl
some_up false missing x y h = cc

none_down : (up missing : Bool) (y : ℕ × ℕ) → missing ≡ false
    → None ≡ cond (is_none (first (when (not up) Down ∷ when missing NoField ∷ []))) (Some y) None → true ≡ not up
none_down false missing y m h = refl
none_down true true y m h = cc
none_down true false y m h = cc

pub up_told : (schema : SchemaValue) (t : List Entry) (s : ℕ) (field : FieldNo) (x : ℕ × ℕ)
    → Some x ≡ shares_of (place schema s (fresh schema s) (own s t)) field → false ≡ is_down schema t s
up_told schema t s field x h =
    some_up (is_up (fresh schema s) (own s t)) (leb (length schema.fields) field.0) x
    (shares_at (place schema s (fresh schema s) (own s t)) field) h

pub down_told : (schema : SchemaValue) (t : List Entry) (s : ℕ) (field : FieldNo) → field.0 < length schema.fields
    → None ≡ shares_of (place schema s (fresh schema s) (own s t)) field → true ≡ is_down schema t s
down_told schema t s field known h =
    let there : leb (length schema.fields) field.0 ≡ false = elim (cases_Bool (leb (length schema.fields) field.0)) [
      | inl past ↦ absurd (omega (arith, known, leb-true (length schema.fields) field.0 past))
      | inr inside ↦ inside
    ] in
    none_down (is_up (fresh schema s) (own s t)) (leb (length schema.fields) field.0)
    (shares_at (place schema s (fresh schema s) (own s t)) field) there h

-- ---- a short trace has begun few

step_few : (n : ℕ) (r : Reply) → count_after is_begun_reply n r ≤ n + 1
step_few n (Begun txn) = omega arith
step_few n r = omega arith

since_few : (o : List Entry) → count_since is_begun_reply o ≤ length o
since_few [] = omega arith
since_few (e ∷ o) = omega (arith, since_few o, step_few (count_since is_begun_reply o) e.reply)

not_full : (schema : SchemaValue) (t : List Entry) (named s : ℕ) → length t < max_number → has_no_number schema t named s ≡ false
not_full schema t named s short =
    let count = count_since is_begun_reply (own s t) in
    elim (cases_Bool (has_no_number schema t named s)) [
      | inl full ↦
          let many = leb-true max_number count (and_parts (not (eqb s named)) (leb max_number count) full).1 in
          absurd (omega (arith, own_few s t, since_few (own s t), many))
      | inr room ↦ room
    ]

pub none_full : (schema : SchemaValue) (t : List Entry) (named n : ℕ) → length t < max_number
    → None ≡ least n (has_no_number schema t named)
none_full schema t named zero short = refl
none_full schema t named (suc n) short =
    let before = sym (none_full schema t named n short) in
    let here = not_full schema t named n short in
    sym (rw (before, here) refl)

-- ---- the shares that a site tells

shares_up : (up missing : Bool) (x y : ℕ × ℕ)
    → Some x ≡ cond (is_none (first (when (not up) Down ∷ when missing NoField ∷ []))) (Some y) None → x ≡ y
shares_up true false x y h = cc
shares_up true true x y h = cc
shares_up false missing x y h = cc

pub shares_told : (schema : SchemaValue) (t : List Entry) (s : ℕ) (field : FieldNo) (x : ℕ × ℕ)
    → Some x ≡ shares_of (place schema s (fresh schema s) (own s t)) field
    → (x.0 ≡ share (fresh schema s) field.0 Lower (at_site schema t s)) × (x.1 ≡ share (fresh schema s) field.0 Raise (at_site schema t s))
shares_told schema t s field x h =
    let is = shares_up (is_up (fresh schema s) (own s t)) (leb (length schema.fields) field.0) x
    (shares_at (place schema s (fresh schema s) (own s t)) field) h in
    (ap (λ (y : ℕ × ℕ). y.0) is, ap (λ (y : ℕ × ℕ). y.1) is)
