-- The bytes of a window, after a step of its start or a read behind them.
use Rattle.std.proofs.Common.{◌≡◌, ℕ, ◌+◌, ◌-◌, ◌≤◌, List, ◌++◌, length, take, drop, slice_range, sym, ap, ◌∙◌, append-nil, arith}
use Rattle.std.proofs.lemmas.List.{drop-take, drop-drop, take-append-le, drop-append-le, length-append, length-take-le, length-drop}
use borrow.Rule.Slice.PartMut.{post_of}
use Rattle.std.proofs.Math.Seq.{take-append-add}

pub rest_size : (xs : List ℕ) (start end : ℕ) → end ≤ length xs → length (slice_range xs start end) ≡ end - start
rest_size xs start end within = length-take-le (end - start) (drop start xs) (omega (arith, within, length-drop start xs))

pub rest_after : (xs : List ℕ) (start end count : ℕ) → start + count ≤ end
    → slice_range xs (start + count) end ≡ drop count (slice_range xs start end)
rest_after xs start end count inside =
    let parts : end - start ≡ count + (end - (start + count)) = omega arith in
    sym (ap (λ k. drop count (take k (drop start xs))) parts ∙ drop-take count (end - (start + count)) (drop start xs)
    ∙ ap (take (end - (start + count))) (drop-drop count start xs))

-- with the bytes of a read behind them
pub rest_grown : (xs buf after : List ℕ) (start end n : ℕ) → start ≤ end → end ≤ length xs → n ≤ length buf
    → slice_range (take end xs ++ (buf ++ after)) start (end + n) ≡ slice_range xs start end ++ take n buf
rest_grown xs buf after start end n ordered within fits =
    let front : length (take end xs) ≡ end = length-take-le end xs within in
    let held = drop start (take end xs) in
    let sum : end + n - start ≡ length held + n = omega (arith, length-drop start (take end xs), front) in
    let parts : end ≡ start + (end - start) = omega arith in
    let same : held ≡ take (end - start) (drop start xs) = ap (λ k. drop start (take k xs)) parts ∙ drop-take start (end - start) xs in
    ap (take (end + n - start)) (drop-append-le start (take end xs) (buf ++ after) (omega (arith, front)))
    ∙ ap (λ k. take k (held ++ (buf ++ after))) sum ∙ take-append-add held (buf ++ after) n
    ∙ ap (λ l. held ++ l) (take-append-le n buf after fits) ∙ ap (λ l. l ++ take n buf) same

-- and how many bytes there are
pub grown_size : (xs buf : List ℕ) (end n : ℕ) → end + n ≤ length xs → length buf ≡ n
    → length (take end xs ++ (buf ++ post_of end (end + n - end) xs)) ≡ length xs
grown_size xs buf end n within size =
    omega (
      arith,
      length-append (take end xs) (buf ++ post_of end (end + n - end) xs),
      length-append buf (post_of end (end + n - end) xs),
      length-take-le end xs (omega (arith, within)),
      length-drop (end + n - end) (drop end xs),
      length-drop end xs,
      size,
      within,
    )

pub rest_kept : (xs buf after : List ℕ) (start end : ℕ) → start ≤ end → end ≤ length xs
    → slice_range (take end xs ++ (buf ++ after)) start end ≡ slice_range xs start end
rest_kept xs buf after start end ordered within =
    let none : end ≡ end + 0 = omega arith in
    ap (slice_range (take end xs ++ (buf ++ after)) start) none ∙ rest_grown xs buf after start end 0 ordered within (omega arith)
    ∙ append-nil (slice_range xs start end)
