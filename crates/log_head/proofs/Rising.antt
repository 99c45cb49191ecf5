-- Numbers that rise, gone over one by one.
use Rattle.std.proofs.Common.{◌≡◌, ℕ, suc, ◌+◌, ◌<◌, ◌≤◌, Bool, true, false, List, [], ◌∷◌, length, drop, get_or, refl, sym, ap, ◌∙◌, add-one}
use Rattle.std.specs.Prelude.{nat_lt, nat_le, ◌&&◌}
use Rattle.std.proofs.Math.Seq.{drop-cons}
use Rattle.std.proofs.lemmas.List.{at_drop_all}
use Rattle.std.proofs.lemmas.Bool.{lt-ltb, le-leb, le-ltb, lt-leb}
use Rattle.log_head.specs.Horizons.{rises_from}

rises_next : (xs : List ℕ) (i last most : ℕ) → i < length xs → rises_from last most (drop i xs)
    ≡ (nat_lt last (get_or xs i 0) && nat_le (get_or xs i 0) most && rises_from (get_or xs i 0) most (drop (suc i) xs))
rises_next xs i last most lt = ap (rises_from last most) (drop-cons xs i 0 lt)

and_false : (a b : Bool) → ((a && false) && b) ≡ false
and_false true b = refl
and_false false b = refl

pub rises_low : (xs : List ℕ) (i last most : ℕ) → i < length xs → get_or xs i 0 ≤ last → rises_from last most (drop i xs) ≡ false
rises_low xs i last most lt low = rises_next xs i last most lt ∙ rw (le-ltb _ _ low) refl

pub rises_high : (xs : List ℕ) (i last most : ℕ) → i < length xs → most < get_or xs i 0 → rises_from last most (drop i xs) ≡ false
rises_high xs i last most lt high = rises_next xs i last most lt ∙ rw (lt-leb _ _ high) (and_false (nat_lt last (get_or xs i 0)) (rises_from (get_or xs i 0) most (drop (suc i) xs)))

pub rises_on : (xs : List ℕ) (i last most : ℕ) → i < length xs → last < get_or xs i 0 → get_or xs i 0 ≤ most
    → rises_from last most (drop i xs) ≡ rises_from (get_or xs i 0) most (drop (i + 1) xs)
rises_on xs i last most lt above up_to =
    let next : rises_from last most (drop i xs) ≡ rises_from (get_or xs i 0) most (drop (suc i) xs) =
    rises_next xs i last most lt ∙ rw (lt-ltb _ _ above, le-leb _ _ up_to) refl in
    next ∙ ap (λ (n : ℕ). rises_from (get_or xs i 0) most (drop n xs)) (sym (add-one i))

pub rises_end : (xs : List ℕ) (i last most : ℕ) → length xs ≤ i → rises_from last most (drop i xs) ≡ true
rises_end xs i last most all = at_drop_all (rises_from last most) xs i all
