-- What stands behind a name.
use Rattle.std.proofs.Common.{◌≡◌, ◌≢◌, ℕ, ◌+◌, true, false, List, ◌++◌, length, take, drop, Option, Some, None, subst, MatchOption, bytes_eq, Bor}
use Rattle.site_folder.proofs.LineLemmas.{begins_with, begins_not}

pub stripped : (bytes name : List ℕ) (r : Option (Bor (List ℕ)))
    → MatchOption r (bytes_eq (take (length name) bytes) name ≡ false)
    (λ x. (bytes_eq (take (length name) bytes) name ≡ true) × (x.now ≡ drop (length name) bytes) × (length x.now + length name ≡ length bytes))
    → MatchOption r ((rest : List ℕ) → bytes ≢ name ++ rest) (λ x. bytes ≡ name ++ x.now)
stripped bytes name None other = begins_not bytes name other
stripped bytes name (Some x) same = begins_with bytes x.now name same.0 same.1

-- the same of an equal name
pub by_name : (bytes name own : List ℕ) (r : Option (Bor (List ℕ))) → name ≡ own
    → MatchOption r ((rest : List ℕ) → bytes ≢ name ++ rest) (λ x. bytes ≡ name ++ x.now)
    → MatchOption r ((rest : List ℕ) → bytes ≢ own ++ rest) (λ x. bytes ≡ own ++ x.now)
by_name bytes name own r same told =
    subst (λ (n : List ℕ). MatchOption r ((rest : List ℕ) → bytes ≢ n ++ rest) (λ x. bytes ≡ n ++ x.now)) same told
