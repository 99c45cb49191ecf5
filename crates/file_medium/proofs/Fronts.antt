-- What stays at the front of known bytes, and of what no cut took (this project).
use Rattle.std.proofs.Common.{◌≡◌, ◌≤◌, ℕ, zero, suc, List, [], ◌∷◌, length, take, Option, None, Some, Result, Ok, Err, refl, sym, ap, subst, ◌∙◌, arith}
use Rattle.std.proofs.lemmas.List.{length-take, take_all, take_at}
use lib.Seq.{take-take}
use Rattle.std.specs.Io.KnownBytes.{append_known}
use Rattle.file_medium.specs.Files.{IsSpared, KeepsFront, LowersTo, SparesFront, cut_known, least_known}

-- What is there is a front of itself.
pub keeps-same : (known : Option (List ℕ)) → KeepsFront known known
keeps-same None = tt
keeps-same (Some xs) = sym (take_all (length xs) xs (omega arith))

pub keeps-is : (old new : Option (List ℕ)) → new ≡ old → KeepsFront old new
keeps-is old new is = subst (KeepsFront old) (sym is) (keeps-same old)

-- And of what is added to it.
pub keeps-more : (known : Option (List ℕ)) (more : List ℕ) → KeepsFront known (append_known known more)
keeps-more None more = tt
keeps-more (Some xs) more = sym (take_at xs more (length xs) refl)

-- A front is one of the whole.
take-short : (n : ℕ) (xs : List ℕ) → take n xs ≡ take (length (take n xs)) xs
take-short zero xs = refl
take-short (suc n) [] = refl
take-short (suc n) (x ∷ xs) = ap (λ (l : List ℕ). x ∷ l) (take-short n xs)

pub keeps-cut : (kept : ℕ) (known : Option (List ℕ)) → KeepsFront (cut_known kept known) known
keeps-cut kept None = tt
keeps-cut kept (Some xs) = take-short kept xs

-- A front of a front is one.
pub keeps-still : (old between new : Option (List ℕ)) → KeepsFront old between → KeepsFront between new → KeepsFront old new
keeps-still None between new first next = tt
keeps-still (Some xs) None new first next = absurd first
keeps-still (Some xs) (Some ys) None first next = absurd next
keeps-still (Some xs) (Some ys) (Some zs) first next =
    let short : length xs ≤ length ys = omega (arith, ap (length {A = ℕ}) first, length-take (length xs) ys) in
    first ∙ ap (take (length xs)) next ∙ take-take (length xs) (length ys) zs short

-- Where nothing was cut, nothing is lost of any front.
pub spares-same : (n : ℕ) (old new : Option ℕ) → new ≡ old → SparesFront n old new
spares-same n old new is front within spared = subst (IsSpared front) (sym is) spared

-- A cut spares what stands in front of it.
pub spares-lowered : (kept : ℕ) (old new : Option ℕ) → new ≡ least_known kept old → SparesFront kept old new
spares-lowered kept None new is front within spared = subst (IsSpared front) (sym is) tt
spares-lowered kept (Some least) new is front within spared = subst (IsSpared front) (sym is) (omega arith)

pub spares-cut : {T E : Type 0} (kept : ℕ) (old new : Option ℕ) (result : Result T E) → LowersTo kept old new result → SparesFront kept old new
spares-cut kept old new (Ok t) lowers = spares-lowered kept old new lowers
spares-cut kept old new (Err e) lowers = spares-same kept old new lowers

-- What was spared in two turns was spared in both.
pub spares-still : (n : ℕ) (old between new : Option ℕ) → SparesFront n old between → SparesFront n between new → SparesFront n old new
spares-still n old between new first next front within spared = next front within (first front within spared)
