-- The keys whose commits are held, gone over one after another.
use Rattle.std.proofs.Common.{◌≡◌, ◌⊎◌, ◌≤◌, ℕ, zero, suc, Bool, true, false, cond, ◌||◌, List, [], ◌∷◌, length, take, slice_get, option_map, Option, Some, None, bytes_eq, refl, sym, ap, ◌∙◌, subst, inl, inr}
use Rattle.std.specs.List.{list_any}
use Rattle.std.specs.Map.{lookup}
use Rattle.std.proofs.lemmas.List.{take_all}
use Rattle.std.proofs.lemmas.Slice.Eq.{bytes_eq-Decides}
use Rattle.field_bounds.specs.declared.id.TxnId.{TxnId}
use Rattle.kept_records.specs.declared.record.Record.{Record}
use Rattle.kept_records.specs.Logs.{IsLog}
use Rattle.caller_keys.specs.Tables.{stored_of}
use Rattle.caller_keys.proofs.TableLemmas.{stored_eq}
use Rattle.site_service.specs.Kept.{LastNotes, last_of, if_committed, TellsKey}
use Rattle.site_service.specs.Index.{IsBehind}
use Rattle.site_service.specs.Shortening.{KeepsHeldNotes}
use Rattle.site_service.specs.Shorter.{noted_if, is_seen, last_seen, KeepsSeen}

-- ---- keys that were seen

or_or : (a b c : Bool) → ((a || b) || c) ≡ (a || (b || c))
or_or true b c = refl
or_or false b c = refl

or_none : (a : Bool) → (a || false) ≡ a
or_none true = refl
or_none false = refl

any_next : (p : List ℕ → Bool) (last : LastNotes) (n : ℕ) (k : List ℕ)
    → option_map (λ (row : List ℕ × TxnId). row.0) (slice_get last n) ≡ Some k
    → list_any (λ (row : List ℕ × TxnId). p row.0) (take (suc n) last) ≡ (list_any (λ (row : List ℕ × TxnId). p row.0) (take n last) || p k)
any_next p [] n k is = absurd cc
any_next p (row ∷ rest) zero k is = let same : row.0 ≡ k = cc in or_none (p row.0) ∙ ap p same
any_next p (row ∷ rest) (suc n) k is =
    ap (λ (b : Bool). p row.0 || b) (any_next p rest n k is)
    ∙ sym (or_or (p row.0) (list_any (λ (r : List ℕ × TxnId). p r.0) (take n rest)) (p k))

seen_next : (last : LastNotes) (n : ℕ) (key other : List ℕ)
    → option_map (λ (row : List ℕ × TxnId). row.0) (slice_get last n) ≡ Some (stored_of key)
    → is_seen (suc n) last other ≡ (is_seen n last other || bytes_eq other key)
seen_next last n key other is =
    any_next (bytes_eq (stored_of other)) last n (stored_of key) is
    ∙ ap (λ (b : Bool). is_seen n last other || b) (stored_eq other key)

-- a key that isn't there was never noted
none_there : (p : List ℕ → Bool) (last : LastNotes) → list_any (λ (row : List ℕ × TxnId). p row.0) last ≡ false → lookup p last ≡ None
none_there p [] none = refl
none_there p (row ∷ rest) none =
    elim (p row.0) as (λ b. (b || list_any (λ (r : List ℕ × TxnId). p r.0) rest) ≡ false → cond b (Some row.1) (lookup p rest) ≡ None) [
      | true ↦ λ h. absurd cc
      | false ↦ λ h. none_there p rest h
    ] none

all_or_none : (b : Bool) (found : Option TxnId) → (b ≡ false → found ≡ None) → cond b found None ≡ found
all_or_none true found none = refl
all_or_none false found none = sym (none refl)

pub seen_all : (n : ℕ) (last : LastNotes) (key : List ℕ) → length last ≤ n → last_seen n last key ≡ last_of last key
seen_all n last key past =
    ap (λ (rows : LastNotes). cond (list_any (λ (row : List ℕ × TxnId). bytes_eq (stored_of key) row.0) rows) (last_of last key) None)
    (take_all n last past)
    ∙ all_or_none (list_any (λ (row : List ℕ × TxnId). bytes_eq (stored_of key) row.0) last) (last_of last key)
    (none_there (bytes_eq (stored_of key)) last)

pub keeps_all : (held : List ℕ) (n : ℕ) (old new : LastNotes) → length old ≤ n → KeepsSeen held n old new → (rs : List Record) (rest : List ℕ)
    → IsLog held rs rest → KeepsHeldNotes old new rs
keeps_all held n old new past keeps rs rest log key = keeps rs rest log key ∙ ap (if_committed rs) (seen_all n old key past)

-- ---- the next key

alike_or_not : (a b : List ℕ) (v : Bool) → bytes_eq a b ≡ v → (a ≡ b) ⊎ (bytes_eq a b ≡ false)
alike_or_not a b true is = inl ((bytes_eq-Decides a b).0 is)
alike_or_not a b false is = inr is

apart : (a b : List ℕ) (v : Bool) → bytes_eq a b ≡ false → bytes_eq b a ≡ v → bytes_eq b a ≡ false
apart a b true is not = let other : bytes_eq a b ≡ true = (bytes_eq-Decides a b).1 (sym ((bytes_eq-Decides b a).0 not)) in absurd cc
apart a b false is not = not

alike : (a : List ℕ) → bytes_eq a a ≡ true
alike a = (bytes_eq-Decides a a).1 refl

seen_or : (b : Bool) → (b || true) ≡ true
seen_or true = refl
seen_or false = refl

module _ (held : List ℕ) (n : ℕ) (old new later : LastNotes) (key : List ℕ) (found : Option TxnId) (tells : TellsKey held old key found)
    (anew : (other : List ℕ) → last_of later other ≡ noted_if new key found other)
    (row : option_map (λ (r : List ℕ × TxnId). r.0) (slice_get old n) ≡ Some (stored_of key)) (keeps : KeepsSeen held n old new)
    (rs : List Record) (rest : List ℕ) (log : IsLog held rs rest) where
  -- of the key itself
  none_kept : (seen : Bool) → None ≡ if_committed rs (last_of old key) → if_committed rs (cond seen (last_of old key) None) ≡ None
  none_kept true none = sym none
  none_kept false none = refl

  its_own : (f : Option TxnId) → f ≡ if_committed rs (last_of old key) → noted_if new key f key ≡ if_committed rs (last_of old key)
  its_own None is = keeps rs rest log key ∙ none_kept (is_seen n old key) is ∙ is
  its_own (Some txn) is = ap (λ (b : Bool). cond b (Some txn) (last_of new key)) (alike key) ∙ is

  own : noted_if new key found key ≡ if_committed rs (last_seen (suc n) old key)
  own =
      its_own found (tells rs rest log)
      ∙ ap (λ (b : Bool). if_committed rs (cond b (last_of old key) None))
      (sym (seen_next old n key key row ∙ ap (λ (b : Bool). is_seen n old key || b) (alike key) ∙ seen_or (is_seen n old key)))

  -- of another
  other_same : (f : Option TxnId) (other : List ℕ) → bytes_eq key other ≡ false → noted_if new key f other ≡ last_of new other
  other_same None other not_so = refl
  other_same (Some txn) other not_so = ap (λ (b : Bool). cond b (Some txn) (last_of new other)) not_so

  others : (other : List ℕ) → bytes_eq key other ≡ false → noted_if new key found other ≡ if_committed rs (last_seen (suc n) old other)
  others other not_so =
      other_same found other not_so ∙ keeps rs rest log other
      ∙ ap (λ (b : Bool). if_committed rs (cond b (last_of old other) None))
      (sym (seen_next old n key other row ∙ ap (λ (b : Bool). is_seen n old other || b) (apart key other (bytes_eq other key) not_so refl)
      ∙ or_none (is_seen n old other)))

  pub keeps_next : (other : List ℕ) → last_of later other ≡ if_committed rs (last_seen (suc n) old other)
  keeps_next other =
      anew other ∙ elim (alike_or_not key other (bytes_eq key other) refl) [
        | inl same ↦ subst (λ (o : List ℕ). noted_if new key found o ≡ if_committed rs (last_seen (suc n) old o)) same own
        | inr not_so ↦ others other not_so
      ]

pub keeps_none : (held : List ℕ) (old new : LastNotes) → ((key : List ℕ) → last_of new key ≡ None) → KeepsSeen held 0 old new
keeps_none held old new none rs rest log key = none key

pub none_behind : (lines : List ℕ) (last : LastNotes) → lines ≡ [] → ((key : List ℕ) → last_of last key ≡ None) → IsBehind [] lines last
none_behind lines last none unnoted = record { more = []; lines = record { each = tt; lines = none }; tells = unnoted }
