-- What one more byte adds to the two sums (this project).
use Rattle.std.proofs.Common.{◌≡◌, ℕ, suc, ◌+◌, ◌*◌, ◌%◌, ◌<◌, List, [], ◌∷◌, ◌++◌, length, take, get_or, sym, ap, ◌∙◌, arith}
use Rattle.std.specs.List.{sum}
use Rattle.std.proofs.lemmas.List.{length-append}
use Rattle.std.proofs.lemmas.List.Sums.{sum_by-append}
use Rattle.std.proofs.Math.Seq.{take-suc}
use Rattle.std.proofs.Math.Nat.{mod-add-mod, add-mod-mod}
use Rattle.sealed_text.specs.Seals.{weighted}

sum-push : (xs : List ℕ) (b : ℕ) → sum (xs ++ b ∷ []) ≡ sum xs + b
sum-push xs b =
    let one : sum (b ∷ []) ≡ b = omega arith in
    sum_by-append (λ x. x) xs (b ∷ []) ∙ ap (λ k. sum xs + k) one

-- one more byte weighs each before it once more
weighted-push : (xs : List ℕ) (b : ℕ) → weighted (xs ++ b ∷ []) ≡ weighted xs + sum (xs ++ b ∷ [])
weighted-push [] b = omega arith
weighted-push (x ∷ xs) b =
    let more = weighted-push xs b in
    let longer : length (xs ++ b ∷ []) ≡ length xs + 1 = length-append xs (b ∷ []) in
    let times : (1 + (length xs + 1)) * x ≡ (1 + length xs) * x + x = omega arith in
    let one : sum (x ∷ []) ≡ x = omega arith in
    let head : sum (x ∷ (xs ++ b ∷ [])) ≡ x + sum (xs ++ b ∷ []) =
    sum_by-append (λ y. y) (x ∷ []) (xs ++ b ∷ []) ∙ ap (λ k. k + sum (xs ++ b ∷ [])) one in
    rw (longer, times, more, head) omega arith

-- the two sums of the front with one byte more
pub next-sums : (m : ℕ) (xs : List ℕ) (i t w : ℕ) → i < length xs → t ≡ sum (take i xs) % m → w ≡ weighted (take i xs) % m
    → ((t + get_or xs i 0) % m ≡ sum (take (i + 1) xs) % m)
    × ((w + (t + get_or xs i 0) % m) % m ≡ weighted (take (i + 1) xs) % m)
next-sums m xs i t w within total weights =
    let b = get_or xs i 0 in
    let more : i + 1 ≡ suc i = omega arith in
    let front : take (i + 1) xs ≡ take i xs ++ b ∷ [] = ap (λ k. take k xs) more ∙ take-suc xs i 0 within in
    let first : (t + b) % m ≡ sum (take (i + 1) xs) % m =
    ap (λ s. (s + b) % m) total ∙ mod-add-mod (sum (take i xs)) m b ∙ ap (λ s. s % m) (sym (sum-push (take i xs) b)) ∙ ap (λ l. sum l % m) (sym front) in
    let second : (w + (t + b) % m) % m ≡ weighted (take (i + 1) xs) % m =
    ap (λ s. (w + s) % m) first
    ∙ add-mod-mod w (sum (take (i + 1) xs)) m
    ∙ ap (λ s. (s + sum (take (i + 1) xs)) % m) weights
    ∙ mod-add-mod (weighted (take i xs)) m (sum (take (i + 1) xs))
    ∙ ap (λ l. (weighted (take i xs) + sum l) % m) front
    ∙ ap (λ s. s % m) (sym (weighted-push (take i xs) b))
    ∙ ap (λ l. weighted l % m) (sym front) in
    (first, second)
