-- No byte from a place on is a given one.
use Rattle.std.proofs.Common.{◌≡◌, ℕ, ◌+◌, ◌<◌, ◌≤◌, Bool, true, false, eqb, List, length, get_or, drop, refl, ap, ◌∙◌, arith}
use Rattle.std.specs.List.{list_any}
use Rattle.std.proofs.lemmas.List.Folds.{list_any_none}
use Rattle.std.proofs.lemmas.List.Elements.{All-from_get_or}
use Rattle.std.proofs.lemmas.List.{get_or-drop, length-drop}

untrue : (b : Bool) → (b ≡ true → ⊥) → b ≡ false
untrue true h = absurd (h refl)
untrue false h = refl

-- no byte from a place on is this one
pub none_from : (byte : ℕ) (bytes : List ℕ) (from : ℕ)
    → ((k : ℕ) → from ≤ k → k < length bytes → eqb (get_or bytes k 0) byte ≡ true → ⊥) → list_any (λ b. eqb b byte) (drop from bytes) ≡ false
none_from byte bytes from none =
    let p : ℕ → Bool = λ b. eqb b byte in
    list_any_none p (drop from bytes) (All-from_get_or (λ x. p x ≡ false) (drop from bytes) 0
    (λ i lt. let within : from + i < length bytes = omega (arith, lt, length-drop from bytes) in
    ap p (get_or-drop from bytes i 0) ∙ untrue (p (get_or bytes (from + i) 0)) (none (from + i) (omega arith) within)))
