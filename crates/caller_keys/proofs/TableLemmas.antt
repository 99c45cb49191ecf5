-- Keys as they are stored, and one note more.
use Rattle.std.proofs.Common.{◌≡◌, ℕ, Bool, cond, List, [], ◌∷◌, ◌++◌, Option, Some, None, length, drop, replicate, bytes_eq, sym, ap, ◌∙◌}
use Rattle.std.proofs.lemmas.List.{append_cancel_right}
use Rattle.std.proofs.lemmas.List.Sums.{fold-append}
use Rattle.std.proofs.lemmas.Slice.Eq.{bytes_eq-Decides}
use Rattle.std.proofs.lemmas.Bool.Decides.{same_from_decides, Decides-like}
use Rattle.indexmap.specs.IndexMap.{IndexMap, get, Updates}
use Rattle.field_bounds.specs.declared.id.TxnId.{TxnId}
use Rattle.caller_keys.specs.Keys.{KeyNote, note_of, last_txn}
use Rattle.caller_keys.specs.Tables.{stored_of, KeyTableValue, last_in, Tells}

-- other bytes are stored otherwise
pub stored_apart : (a b : List ℕ) → stored_of a ≡ stored_of b → a ≡ b
unfolding stored_of
stored_apart a b is =
    let lengths : length a ≡ length b = cc in
    let tails : a ++ drop (length a) (replicate 64 0) ≡ b ++ drop (length b) (replicate 64 0) = cc in
    let zeros = drop (length a) (replicate 64 0) in
    let same : a ++ zeros ≡ b ++ zeros = tails ∙ ap (λ (k : ℕ). b ++ drop k (replicate 64 0)) (sym lengths) in
    append_cancel_right a b zeros same

-- so stored keys are alike exactly where the keys are
pub stored_eq : (a b : List ℕ) → bytes_eq (stored_of a) (stored_of b) ≡ bytes_eq a b
stored_eq a b =
    same_from_decides (bytes_eq (stored_of a) (stored_of b)) (bytes_eq a b)
    (Decides-like (bytes_eq (stored_of a) (stored_of b)) (stored_apart a b) (ap stored_of) (bytes_eq-Decides (stored_of a) (stored_of b)))
    (bytes_eq-Decides a b)

-- the last note of one note more
pub last_more : (key : List ℕ) (notes : List KeyNote) (n : KeyNote)
    → last_txn key (notes ++ n ∷ []) ≡ cond (bytes_eq n.key key) (Some n.txn) (last_txn key notes)
last_more key notes n =
    fold-append (λ (found : Option TxnId) (m : KeyNote). cond (bytes_eq m.key key) (Some m.txn) found) None notes (n ∷ [])

-- a table that tells one key anew tells one note more
pub tells_more : (old new : KeyTableValue) (key : List ℕ) (txn : TxnId)
    → ((other : List ℕ) → last_in new other ≡ cond (bytes_eq key other) (Some txn) (last_in old other))
    → (notes : List KeyNote) → Tells old notes → Tells new (notes ++ note_of key txn ∷ [])
tells_more old new key txn anew notes tells other =
    anew other ∙ ap (λ (found : Option TxnId). cond (bytes_eq key other) (Some txn) found) (tells other)
    ∙ sym (last_more other notes (note_of key txn))

-- an entry that is put at a stored key tells that key anew
pub put_tells : {S : Type 0} (old new : IndexMap (List ℕ) TxnId S) (stored key : List ℕ) (txn : TxnId) → stored ≡ stored_of key
    → Updates bytes_eq old new stored (Some txn) → (other : List ℕ)
    → get bytes_eq new (stored_of other) ≡ cond (bytes_eq key other) (Some txn) (get bytes_eq old (stored_of other))
put_tells old new stored key txn is updates other =
    let test : bytes_eq stored (stored_of other) ≡ bytes_eq key other =
    ap (λ (l : List ℕ). bytes_eq l (stored_of other)) is ∙ stored_eq key other in
    updates.0 (stored_of other) ∙ ap (λ (b : Bool). cond b (Some txn) (get bytes_eq old (stored_of other))) test
