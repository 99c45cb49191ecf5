-- What becomes of known bytes, and of a copy of them (this project).
use Rattle.std.proofs.Common.{◌≡◌, ◌≢◌, ◌≤◌, ◌<◌, ◌+◌, refl, Bool, true, false, not, ℕ, List, ◌++◌, length, take, drop, Option, None, Some, ap, sym, ◌∙◌, append_assoc, arith, length-drop}
use Rattle.std.proofs.lemmas.List.{length-take-le, length-append, drop-drop, take_all}
use Rattle.std.specs.Str.{bytes_eq}
use Rattle.std.proofs.lemmas.Slice.Eq.{bytes_eq-Decides}
use lib.Seq.{take-add}
use Rattle.std.specs.Io.KnownBytes.{append_known}
use Rattle.file_medium.specs.Files.{ReadsAt}
use Rattle.file_medium.specs.Copies.{IsFrontOf, EndsAs, HasSeen}

-- One piece behind another is both behind what was there.
pub append_known-append : (known : Option (List ℕ)) (xs ys : List ℕ)
    → append_known (append_known known xs) ys ≡ append_known known (xs ++ ys)
append_known-append None xs ys = refl
append_known-append (Some zs) xs ys = ap Some (append_assoc zs xs ys)

-- What was read is the next bytes of the front.
pub front-read : (known : Option (List ℕ)) (held buffer : List ℕ) (n : ℕ) → n ≤ length buffer → IsFrontOf known held
    → ReadsAt known (length held) n buffer → IsFrontOf known (held ++ take n buffer)
front-read None held buffer n most front reads = tt
front-read (Some xs) held buffer n most front reads =
    let piece = take n buffer in
    let joined : held ++ piece ≡ take (length held + n) xs =
    ap (λ l. l ++ piece) front ∙ ap (λ l. take (length held) xs ++ l) reads.0 ∙ sym (take-add (length held) n xs) in
    let size : length held + n ≡ length (held ++ piece) =
    ap (λ k. length held + k) (sym (length-take-le n buffer most)) ∙ sym (length-append held piece) in
    joined ∙ ap (λ k. take k xs) size

-- One piece more was seen, and is as in the copy.
pub seen-more : (known : Option (List ℕ)) (from seen n : ℕ) (held buffer : List ℕ) → HasSeen known from seen held
    → ReadsAt known (from + seen) n buffer → take n buffer ≡ take n (drop seen held) → HasSeen known from (seen + n) held
seen-more None from seen n held buffer has reads same = tt
seen-more (Some xs) from seen n held buffer has reads same =
    let next : take n (drop seen (drop from xs)) ≡ take n (drop seen held) =
    ap (λ l. take n l) (drop-drop seen from xs) ∙ sym reads.0 ∙ same in
    take-add seen n (drop from xs) ∙ ap (λ l. take seen (drop from xs) ++ l) next
    ∙ ap (λ l. l ++ take n (drop seen held)) has ∙ sym (take-add seen n held)

-- All was seen, and nothing stands behind it.
pub seen-all : (known : Option (List ℕ)) (from seen : ℕ) (held buffer : List ℕ) → HasSeen known from seen held
    → seen ≡ length held → ReadsAt known (from + seen) 0 buffer → 0 < length buffer → EndsAs known from held
seen-all None from seen held buffer has whole reads some = tt
seen-all (Some xs) from seen held buffer has whole reads some =
    let end : length xs ≤ from + seen = reads.1 refl some in
    let short : length (drop from xs) ≤ seen = omega (arith, length-drop from xs) in
    sym (take_all seen (drop from xs) short) ∙ has ∙ take_all seen held (omega arith)

-- Bytes that weren't found to differ are the same, and those that were aren't.
not_false : (b : Bool) → not b ≡ false → b ≡ true
not_false true h = refl
not_false false h = absurd cc

pub same_bytes : (r : Bool) (xs ys : List ℕ) → r ≡ not (bytes_eq xs ys) → r ≡ false → xs ≡ ys
same_bytes r xs ys is was = (bytes_eq-Decides xs ys).0 (not_false (bytes_eq xs ys) (sym is ∙ was))

pub other_bytes : (r : Bool) (xs ys : List ℕ) → r ≡ not (bytes_eq xs ys) → r ≡ true → xs ≢ ys
other_bytes r xs ys is was same = absurd (cc (is, was, (bytes_eq-Decides xs ys).1 same))
