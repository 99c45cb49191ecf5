-- The lines of a text that goes on.
use Rattle.std.proofs.Common.{◌≡◌, ◌≢◌, ℕ, ◌+◌, ◌<◌, ◌≤◌, List, [], ◌∷◌, ◌++◌, true, false, cond, eqb, length, refl, sym, ap, ◌∙◌, append_assoc, append-nil, arith}
use Rattle.std.specs.List.{All}
use Rattle.std.proofs.lemmas.List.{length-append}
use Rattle.std.proofs.lemmas.Bool.{ne_eqb}
use Rattle.std.proofs.lemmas.List.Elements.{All-tail}
use Rattle.script_input.specs.Lines.{whole_lines_after, last_part_after, until_break, whole_lines, last_part, last_line, lines_of, with_header}
use Rattle.script_input.specs.Faults.{IsWithin}

pub whole_lines_after-append : (front bs cs : List ℕ)
    → whole_lines_after front (bs ++ cs) ≡ whole_lines_after front bs ++ whole_lines_after (last_part_after front bs) cs
whole_lines_after-append front [] cs = refl
whole_lines_after-append front (b ∷ bs) cs =
    elim (eqb b 10) as (λ v. cond v (front ∷ whole_lines_after [] (bs ++ cs)) (whole_lines_after (front ++ b ∷ []) (bs ++ cs))
    ≡ cond v (front ∷ whole_lines_after [] bs) (whole_lines_after (front ++ b ∷ []) bs)
    ++ whole_lines_after (cond v (last_part_after [] bs) (last_part_after (front ++ b ∷ []) bs)) cs) [
      | true ↦ ap (λ l. front ∷ l) (whole_lines_after-append [] bs cs)
      | false ↦ whole_lines_after-append (front ++ b ∷ []) bs cs
    ]

pub last_part_after-append : (front bs cs : List ℕ)
    → last_part_after front (bs ++ cs) ≡ last_part_after (last_part_after front bs) cs
last_part_after-append front [] cs = refl
last_part_after-append front (b ∷ bs) cs =
    elim (eqb b 10) as (λ v. cond v (last_part_after [] (bs ++ cs)) (last_part_after (front ++ b ∷ []) (bs ++ cs))
    ≡ last_part_after (cond v (last_part_after [] bs) (last_part_after (front ++ b ∷ []) bs)) cs) [
      | true ↦ last_part_after-append [] bs cs
      | false ↦ last_part_after-append (front ++ b ∷ []) bs cs
    ]

first_unbroken : (b : ℕ) (bs : List ℕ) → All (λ b. b ≢ 10) (b ∷ bs) → b ≢ 10
first_unbroken b bs h = h 0 b (omega arith)

-- bytes with no LF end no line
pub whole_lines_after-unbroken : (front bs : List ℕ) → All (λ b. b ≢ 10) bs → whole_lines_after front bs ≡ []
whole_lines_after-unbroken front [] h = refl
whole_lines_after-unbroken front (b ∷ bs) h =
    rw (ne_eqb b 10 (first_unbroken b bs h)) (whole_lines_after-unbroken (front ++ b ∷ []) bs (All-tail (λ b. b ≢ 10) b bs h))

pub last_part_after-unbroken : (front bs : List ℕ) → All (λ b. b ≢ 10) bs → last_part_after front bs ≡ front ++ bs
last_part_after-unbroken front [] h = sym (append-nil front)
last_part_after-unbroken front (b ∷ bs) h =
    rw (ne_eqb b 10 (first_unbroken b bs h)) (last_part_after-unbroken (front ++ b ∷ []) bs (All-tail (λ b. b ≢ 10) b bs h)
    ∙ append_assoc front (b ∷ []) bs)

pub until_break-unbroken : (part back : List ℕ) → All (λ b. b ≢ 10) part → until_break (part ++ back) ≡ length part + until_break back
until_break-unbroken [] back h = omega arith
until_break-unbroken (b ∷ part) back h =
    let rest = until_break-unbroken part back (All-tail (λ b. b ≢ 10) b part h) in
    rw (ne_eqb b 10 (first_unbroken b part h)) (omega (arith, rest))

-- the last part of bytes in which no line ends is all of them
pub last_part_after-none : (front bs : List ℕ) → whole_lines_after front bs ≡ [] → last_part_after front bs ≡ front ++ bs
last_part_after-none front [] = λ h. sym (append-nil front)
last_part_after-none front (b ∷ bs) =
    elim (eqb b 10) as (λ v. cond v (front ∷ whole_lines_after [] bs) (whole_lines_after (front ++ b ∷ []) bs) ≡ []
    → cond v (last_part_after [] bs) (last_part_after (front ++ b ∷ []) bs) ≡ front ++ b ∷ bs) [
      | true ↦ λ h. cc
      | false ↦ λ h. last_part_after-none (front ++ b ∷ []) bs h ∙ append_assoc front (b ∷ []) bs
    ]

-- one more part of a line
pub whole_lines-unbroken : (read piece : List ℕ) → All (λ b. b ≢ 10) piece → whole_lines (read ++ piece) ≡ whole_lines read
whole_lines-unbroken read piece h =
    whole_lines_after-append [] read piece
    ∙ ap (λ l. whole_lines read ++ l) (whole_lines_after-unbroken (last_part read) piece h) ∙ append-nil (whole_lines read)

pub last_part-unbroken : (read piece : List ℕ) → All (λ b. b ≢ 10) piece → last_part (read ++ piece) ≡ last_part read ++ piece
last_part-unbroken read piece h = last_part_after-append [] read piece ∙ last_part_after-unbroken (last_part read) piece h

-- one more LF
pub whole_lines-broken : (read : List ℕ) → whole_lines (read ++ 10 ∷ []) ≡ whole_lines read ++ last_part read ∷ []
whole_lines-broken read = whole_lines_after-append [] read (10 ∷ [])

pub last_part-broken : (read : List ℕ) → last_part (read ++ 10 ∷ []) ≡ []
last_part-broken read = last_part_after-append [] read (10 ∷ [])

-- ---- a last line without LF, and the header line

pub last_line-some : (line : List ℕ) → (line ≡ [] → ⊥) → last_line line ≡ line ∷ []
last_line-some [] h = absurd (h refl)
last_line-some (b ∷ bs) h = refl

pub with_header-last : (line : List ℕ) → with_header (last_line line) ≡ line ∷ []
with_header-last [] = refl
with_header-last (b ∷ bs) = refl

pub with_header-some : (lines more : List (List ℕ)) (header : List ℕ) (behind : List (List ℕ)) → lines ≡ header ∷ behind
    → with_header (lines ++ more) ≡ lines ++ more
with_header-some [] more header behind = λ e. cc
with_header-some (line ∷ lines) more header behind = λ e. refl

-- ---- how many lines there are

last_line-most : (line : List ℕ) → length (last_line line) ≤ 1
last_line-most [] = omega arith
last_line-most (b ∷ bs) = omega arith

-- one line more than the whole ones, at most
lines_of-most : (read : List ℕ) → length (lines_of read) ≤ length (whole_lines read) + 1
lines_of-most read =
    omega (arith, length-append (whole_lines read) (last_line (last_part read)), last_line-most (last_part read))

-- behind less lines than the limit, a part of one more is within it
pub within-unbroken : (read piece : List ℕ) → All (λ b. b ≢ 10) piece → length (whole_lines read) < 1000000
    → length (lines_of (read ++ piece)) ≤ 1000000
within-unbroken read piece h room =
    omega (arith, lines_of-most (read ++ piece), ap length (whole_lines-unbroken read piece h), room)

pub within-nothing : IsWithin []
within-nothing = record { lines = omega arith; bytes = omega arith }

-- ---- bytes that are some

pub some_after_line : (rest line after more : List ℕ) → rest ≡ line ++ 10 ∷ after → rest ++ more ≢ []
some_after_line rest [] after more e = λ h. let none : (10 ∷ after) ++ more ≡ [] = ap (λ l. l ++ more) (sym e) ∙ h in cc
some_after_line rest (b ∷ line) after more e =
    λ h. let none : (b ∷ (line ++ 10 ∷ after)) ++ more ≡ [] = ap (λ l. l ++ more) (sym e) ∙ h in cc
