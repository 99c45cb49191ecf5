-- What becomes of the bytes behind a name, and of those that were compared with it (this project).
use Rattle.std.proofs.Common.{◌≡◌, ◌≢◌, ◌≤◌, ◌<◌, ◌+◌, ◌-◌, ℕ, zero, suc, List, [], ◌∷◌, ◌++◌, length, length-append, take, drop, true, false, min, inl, inr, Option, None, Some, Result, Ok, Err, refl, sym, ap, ◌∙◌, arith}
use Rattle.std.proofs.lemmas.List.{drop-take, drop_at, length-take, take-append-drop, take_all, take_at}
use Rattle.std.specs.Str.{bytes_eq}
use Rattle.std.proofs.lemmas.Slice.Eq.{bytes_eq-Decides}
use Rattle.std.proofs.lemmas.Bool.{cases_Bool}
use lib.Seq.{take-add, take-take}
use Rattle.std.specs.Prelude.{option_map}
use Rattle.std.specs.Io.KnownBytes.{Keeps}
use Rattle.file_medium.specs.Copies.{IsCopyOf}
use Rattle.file_medium.specs.Files.{AreThere, CutsTo, IsSpared, KeepsFront, LowersTo, ReadsAt, cut_known}
use Rattle.file_swap.specs.Heads.{joined}
use Rattle.named_log.specs.Names.{behind, count_behind, BeginsWith, HasMet, StartsAs}

-- A cut of the file is one of the log behind the name.
pub cut-behind : {T E : Type 0} (name kept place : ℕ) (old new : Option (List ℕ)) (result : Result T E) → place ≡ name + kept
    → CutsTo place old new result → CutsTo kept (behind name old) (behind name new) result
cut-behind name kept place old new (Err e) at cuts = ap (behind name) cuts
cut-behind name kept place None new (Ok t) at cuts = ap (behind name) cuts
cut-behind name kept place (Some xs) new (Ok t) at cuts =
    ap (behind name) cuts ∙ ap (λ k. Some (drop name (take k xs))) at ∙ ap Some (drop-take name kept xs)

-- And it leaves as many bytes behind the name.
pub least-behind : {T E : Type 0} (name kept place : ℕ) (old new : Option ℕ) (result : Result T E) → place ≡ name + kept
    → LowersTo place old new result → LowersTo kept (count_behind name old) (count_behind name new) result
least-behind name kept place old new (Err e) at lowers = ap (count_behind name) lowers
least-behind name kept place None new (Ok t) at lowers = ap (count_behind name) lowers
least-behind name kept place (Some least) new (Ok t) at lowers =
    let same : min place least - name ≡ min kept (least - name) = omega (arith, at) in
    ap (count_behind name) lowers ∙ ap Some same

-- What is a front of the file's bytes is one behind the name too.
front-drop : (n : ℕ) (xs ys : List ℕ) → xs ≡ take (length xs) ys → drop n xs ≡ take (length (drop n xs)) (drop n ys)
front-drop zero xs ys keeps = keeps
front-drop (suc n) [] ys keeps = refl
front-drop (suc n) (x ∷ xs) [] keeps = absurd cc
front-drop (suc n) (x ∷ xs) (y ∷ ys) keeps = front-drop n xs ys (ap (drop 1) keeps)

pub keeps-behind : (name : ℕ) (old new : Option (List ℕ)) → KeepsFront old new → KeepsFront (behind name old) (behind name new)
keeps-behind name None new keeps = tt
keeps-behind name (Some xs) None keeps = keeps
keeps-behind name (Some xs) (Some ys) keeps = front-drop name xs ys keeps

-- The name stays where the log behind it is cut, and where what was safe still is.
pub name-cut : {T E : Type 0} (name kept place : ℕ) (old new : Option (List ℕ)) (result : Result T E) → place ≡ name + kept
    → CutsTo place old new result → cut_known name new ≡ cut_known name old
name-cut name kept place old new (Err e) at cuts = ap (cut_known name) cuts
name-cut name kept place None new (Ok t) at cuts = ap (cut_known name) cuts
name-cut name kept place (Some xs) new (Ok t) at cuts = ap (cut_known name) cuts ∙ ap Some (take-take name place xs (omega (arith, at)))

pub name-kept : (name : ℕ) (old new : Option (List ℕ)) → AreThere name old → KeepsFront old new
    → Keeps (cut_known name old) (cut_known name new)
name-kept name None new there keeps = tt
name-kept name (Some xs) None there keeps = keeps
name-kept name (Some xs) (Some ys) there keeps = sym (ap (take name) keeps ∙ take-take name (length xs) ys there)

-- It is the one that the file begins with.
pub name-begins : (known : Option (List ℕ)) (name : List ℕ) → BeginsWith known name
    → cut_known (length name) known ≡ option_map (λ _. name) known
name-begins None name begins = refl
name-begins (Some xs) name begins = ap Some begins

pub there-begins : (known : Option (List ℕ)) (name : List ℕ) → BeginsWith known name → AreThere (length name) known
there-begins None name begins = tt
there-begins (Some xs) name begins = omega (arith, ap (length {A = ℕ}) begins, length-take (length name) xs)

-- Bytes that differ are told to, and those that are the same are told so.
differ : (xs ys : List ℕ) → xs ≢ ys → false ≡ bytes_eq xs ys
differ xs ys ne =
    elim (cases_Bool (bytes_eq xs ys)) [
      | inl same ↦ absurd (ne ((bytes_eq-Decides xs ys).0 same))
      | inr other ↦ sym other
    ]

-- The bytes ended before the name did.
pub starts-short : (known : Option (List ℕ)) (seen n : ℕ) (name buffer : List ℕ) → seen < length name → 0 < length buffer
    → min n (length name - seen) ≡ 0 → ReadsAt known seen n buffer → StartsAs false known name
starts-short None seen n name buffer within some none reads = tt
starts-short (Some xs) seen n name buffer within some none reads =
    let short : length xs ≤ seen = reads.1 (omega arith) some in
    differ (take (length name) xs) name (λ same. absurd (omega (arith, ap length (sym (take_all (length name) xs (omega arith)) ∙ same))))

-- What was read of the file.
next-of : (xs buffer : List ℕ) (seen n count : ℕ) → count ≤ n → take n buffer ≡ take n (drop seen xs)
    → take count buffer ≡ take count (drop seen xs)
next-of xs buffer seen n count few reads =
    sym (take-take count n buffer few) ∙ ap (take count) reads ∙ take-take count n (drop seen xs) few

-- The next bytes aren't those of the name.
pub starts-other : (known : Option (List ℕ)) (seen n count : ℕ) (name buffer : List ℕ) → count ≤ n → seen + count ≤ length name
    → take count buffer ≢ take count (drop seen name) → ReadsAt known seen n buffer → StartsAs false known name
starts-other None seen n count name buffer few within other reads = tt
starts-other (Some xs) seen n count name buffer few within other reads =
    differ (take (length name) xs) name (λ same.
    other (next-of xs buffer seen n count few reads.0
    ∙ sym (drop-take seen count xs)
    ∙ ap (drop seen) (sym (take-take (seen + count) (length name) xs within))
    ∙ ap (λ l. drop seen (take (seen + count) l)) same
    ∙ drop-take seen count name))

-- The next bytes are those of the name.
pub met-more : (known : Option (List ℕ)) (seen n count : ℕ) (name buffer : List ℕ) → count ≤ n → HasMet known seen name
    → take count buffer ≡ take count (drop seen name) → ReadsAt known seen n buffer → HasMet known (seen + count) name
met-more None seen n count name buffer few met same reads = tt
met-more (Some xs) seen n count name buffer few met same reads =
    take-add seen count xs
    ∙ ap (λ l. l ++ take count (drop seen xs)) met
    ∙ ap (λ l. take seen name ++ l) (sym (next-of xs buffer seen n count few reads.0) ∙ same)
    ∙ sym (take-add seen count name)

-- All of the name was met.
pub starts-all : (known : Option (List ℕ)) (seen : ℕ) (name : List ℕ) → length name ≤ seen → seen ≤ length name
    → HasMet known seen name → StartsAs true known name
starts-all None seen name all within met = tt
starts-all (Some xs) seen name all within met =
    let same : take (length name) xs ≡ name =
    ap (λ k. take k xs) (omega arith) ∙ met ∙ take_all seen name all in
    sym ((bytes_eq-Decides (take (length name) xs) name).1 same)

-- ---- another file in the place of this one

-- Of a name and bytes behind it, what stands behind the name are those bytes, and the front is the name.
pub copy-behind : (known : Option (List ℕ)) (name held : List ℕ) → IsCopyOf known (name ++ held) → IsCopyOf (behind (length name) known) held
copy-behind None name held copy = tt
copy-behind (Some xs) name held copy = ap (drop (length name)) copy ∙ drop_at name held (length name) refl

pub copy-name : (known : Option (List ℕ)) (name held : List ℕ) → IsCopyOf known (name ++ held) → IsCopyOf (cut_known (length name) known) name
copy-name None name held copy = tt
copy-name (Some xs) name held copy = ap (take (length name)) copy ∙ take_at name held (length name) refl

pub copy-there : (known : Option (List ℕ)) (name held : List ℕ) → IsCopyOf known (name ++ held) → AreThere (length name) known
copy-there None name held copy = tt
copy-there (Some xs) name held copy = omega (arith, ap (length {A = ℕ}) copy, length-append name held)

pub spared-behind : (known : Option ℕ) (name held : List ℕ) → IsSpared (length (name ++ held)) known
    → IsSpared (length held) (count_behind (length name) known)
spared-behind None name held spared = tt
spared-behind (Some least) name held spared = omega (arith, spared, length-append name held)

-- A name and what stands behind it are all of the file, however long the name was.
pub joined-file : (known : Option (List ℕ)) (name : ℕ) → joined (cut_known name known) (behind name known) ≡ known
joined-file None name = refl
joined-file (Some xs) name = ap Some (take-append-drop name xs)
