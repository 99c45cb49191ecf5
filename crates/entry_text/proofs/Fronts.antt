-- Fronts of what is added to.
use Rattle.std.proofs.Common.{◌≡◌, ℕ, List, [], ◌∷◌, ◌++◌, length, take, refl, subst}

front_kept : (a x c : List ℕ) → take (length (a ++ x)) c ≡ a ++ x → take (length a) c ≡ a
front_kept [] x c h = refl
front_kept (y ∷ a) x [] h = absurd cc
front_kept (y ∷ a) x (z ∷ c) h =
    let rest : take (length (a ++ x)) c ≡ a ++ x = cc in
    let first : z ≡ y = cc in
    rw (first, front_kept a x c rest) refl

-- A list that begins with another and what was added to it begins with that other.
pub front_still_kept : (a b x c : List ℕ) → b ≡ a ++ x → take (length b) c ≡ b → take (length a) c ≡ a
front_still_kept a b x c e h = front_kept a x c (subst (λ (l : List ℕ). take (length l) c ≡ l) e h)

-- The same after three additions.
pub front_kept_by_three : (a b c d x y z all : List ℕ) → b ≡ a ++ x → c ≡ b ++ y → d ≡ c ++ z → take (length d) all ≡ d
    → take (length a) all ≡ a
front_kept_by_three a b c d x y z all first second third h =
    front_still_kept a b x all first (front_still_kept b c y all second (front_still_kept c d z all third h))
