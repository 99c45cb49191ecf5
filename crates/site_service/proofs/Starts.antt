-- What a start keeps of a log.
use Rattle.std.proofs.Common.{◌≡◌, ◌≤◌, ◌-◌, ◌+◌, ℕ, Bool, false, List, [], ◌++◌, length, take, Option, None, Some, sym, ap, ◌∙◌, subst, append_assoc, arith}
use Rattle.std.proofs.Math.Nat.{le-min}
use Rattle.std.proofs.Math.Seq.{take-append_seam, take-append-add}
use Rattle.std.proofs.lemmas.List.{length-append, append_cancel_right}
use Rattle.script_input.specs.Lines.{last_part}
use Rattle.file_medium.specs.Files.{cut_known, least_known, AreThere, IsSpared}
use Rattle.file_medium.specs.Copies.{IsCopyOf}
use Rattle.site_service.specs.Opening.{AreLines, HoldsLines, HoldsWhole, IsSafe, KeepsLines, SparesLines}
use Rattle.site_service.proofs.Whole.{last_behind, last_unbroken}

-- ---- the whole lines of bytes

torn_is : (bytes lines torn : List ℕ) → AreLines bytes lines torn → last_part bytes ≡ torn
torn_is bytes lines torn are = ap last_part are.parts ∙ last_behind lines torn are.whole ∙ last_unbroken [] torn are.no_lf

-- are one front of them
lines_one : (bytes lines torn other rest : List ℕ) → AreLines bytes lines torn → AreLines bytes other rest → lines ≡ other
lines_one bytes lines torn other rest a b =
    let same : torn ≡ rest = sym (torn_is bytes lines torn a) ∙ torn_is bytes other rest b in
    append_cancel_right lines other torn (sym a.parts ∙ b.parts ∙ ap (λ (t : List ℕ). other ++ t) (sym same))

held_one : (bytes held lines torn : List ℕ) → HoldsLines (Some bytes) held → AreLines bytes lines torn → lines ≡ held
held_one bytes held lines torn holds are =
    lines_one bytes lines torn held holds.torn are (subst (λ (b : List ℕ). AreLines b held holds.torn) (sym holds.copy) holds.lines)

-- the file has them
pub held_there : (known : Option (List ℕ)) (held : List ℕ) → HoldsLines known held → AreThere (length held) known
held_there None held holds = tt
held_there (Some xs) held holds =
    omega (arith, ap length holds.copy, ap length holds.lines.parts, length-append held holds.torn)

-- those of so many bytes
pub whole_there : (known : Option (List ℕ)) (whole : ℕ) (torn : Bool) → HoldsWhole known whole torn → AreThere whole known
whole_there known whole torn holds = subst (λ (n : ℕ). AreThere n known) (sym holds.size) (held_there known holds.held holds.lines)

-- are all of the file, for each that are its whole lines
pub whole_all : (known : Option (List ℕ)) (whole : ℕ) (torn : Bool) → HoldsWhole known whole torn → torn ≡ false → (held : List ℕ)
    → HoldsLines known held → IsCopyOf known held
whole_all None whole torn holds none held lines = tt
whole_all (Some xs) whole torn holds none held lines =
    let one = held_one xs held holds.held holds.lines.torn lines (subst (λ (b : List ℕ). AreLines b holds.held holds.lines.torn) (sym holds.lines.copy) holds.lines.lines) in
    holds.all none ∙ one

-- and is cut to them
pub held_cut : (known : Option (List ℕ)) (held : List ℕ) → HoldsLines known held → IsCopyOf (cut_known (length held) known) held
held_cut None held holds = tt
held_cut (Some xs) held holds =
    ap (take (length held)) (holds.copy ∙ holds.lines.parts) ∙ take-append_seam held holds.torn

-- and the file is cut to each such
pub whole_cut : (known now : Option (List ℕ)) (whole : ℕ) (torn : Bool) → HoldsWhole known whole torn → now ≡ cut_known whole known
    → (held : List ℕ) → HoldsLines known held → IsCopyOf now held
whole_cut None now whole torn holds cut held lines = subst (λ (k : Option (List ℕ)). IsCopyOf k held) (sym cut) tt
whole_cut (Some xs) now whole torn holds cut held lines =
    let one = held_one xs held holds.held holds.lines.torn lines (subst (λ (b : List ℕ). AreLines b holds.held holds.lines.torn) (sym holds.lines.copy) holds.lines.lines) in
    let size : length held ≡ whole = ap length (sym one) ∙ sym holds.size in
    subst (λ (k : Option (List ℕ)). IsCopyOf k held) (sym (cut ∙ ap (λ (n : ℕ). cut_known n (Some xs)) (sym size))) (held_cut (Some xs) held lines)

-- ---- what is safe of them

safe_front : (now : Option (List ℕ)) (held front more : List ℕ) → held ≡ front ++ more → IsSafe now held → IsSafe now front
safe_front None held front more is safe = tt
safe_front (Some xs) held front more is safe =
    (more ++ safe.0, safe.1 ∙ ap (λ (l : List ℕ). l ++ safe.0) is ∙ append_assoc front more safe.0)

safe_cut : (was : Option (List ℕ)) (n : ℕ) (front : List ℕ) → length front ≤ n → IsSafe was front → IsSafe (cut_known n was) front
safe_cut None n front within had = tt
safe_cut (Some xs) n front within had =
    let size : n ≡ length front + (n - length front) = omega (arith, within) in (
      take (n - length front) had.0,
      ap (take n) had.1 ∙ ap (λ k. take k (front ++ had.0)) size ∙ take-append-add front had.0 (n - length front),
    )

-- they are all safe
pub keeps_all : (known was now : Option (List ℕ)) (held : List ℕ) → HoldsLines known held → IsSafe now held → KeepsLines known was now
keeps_all None was now held holds safe = tt
keeps_all (Some bytes) was now held holds safe = λ lines torn are front more is had.
    safe_front now held front more (sym (held_one bytes held lines torn holds are) ∙ is) safe

-- nothing was done
pub keeps_still : (known was now : Option (List ℕ)) → now ≡ was → KeepsLines known was now
keeps_still None was now same = tt
keeps_still (Some bytes) was now same = λ lines torn are front more is had.
    subst (λ (k : Option (List ℕ)). IsSafe k front) (sym same) had

-- what stood behind them was cut off
pub keeps_cut : (known was now : Option (List ℕ)) (held : List ℕ) → HoldsLines known held → now ≡ cut_known (length held) was
    → KeepsLines known was now
keeps_cut None was now held holds cut = tt
keeps_cut (Some bytes) was now held holds cut = λ lines torn are front more is had.
    let one = held_one bytes held lines torn holds are in
    let within : length front ≤ length held = omega (arith, ap length one, ap length is, length-append front more) in
    subst (λ (k : Option (List ℕ)). IsSafe k front) (sym cut) (safe_cut was (length held) front within had)

-- ---- the cuts

spared_least : (n : ℕ) (was : Option ℕ) (front : ℕ) → front ≤ n → IsSpared front was → IsSpared front (least_known n was)
spared_least n None front within had = tt
spared_least n (Some least) front within had = le-min within had

pub spares_still : (known : Option (List ℕ)) (was now : Option ℕ) → now ≡ was → SparesLines known was now
spares_still None was now same = tt
spares_still (Some bytes) was now same = λ lines torn are front within had.
    subst (λ (k : Option ℕ). IsSpared front k) (sym same) had

pub spares_cut : (known : Option (List ℕ)) (was now : Option ℕ) (held : List ℕ) → HoldsLines known held
    → now ≡ least_known (length held) was → SparesLines known was now
spares_cut None was now held holds cut = tt
spares_cut (Some bytes) was now held holds cut = λ lines torn are front within had.
    let size = ap length (held_one bytes held lines torn holds are) in
    subst (λ (k : Option ℕ). IsSpared front k) (sym cut) (spared_least (length held) was front (omega (arith, within, size)) had)

-- ---- where the file was only read before

pub keeps_from : (known mid was half now : Option (List ℕ)) → mid ≡ known → half ≡ was → KeepsLines mid half now → KeepsLines known was now
keeps_from known mid was half now same kept keeps =
    subst (λ (k : Option (List ℕ)). KeepsLines k was now) same (subst (λ (k : Option (List ℕ)). KeepsLines mid k now) kept keeps)

pub spares_from : (known mid : Option (List ℕ)) (was half now : Option ℕ) → mid ≡ known → half ≡ was → SparesLines mid half now
    → SparesLines known was now
spares_from known mid was half now same kept spares =
    subst (λ (k : Option (List ℕ)). SparesLines k was now) same (subst (λ (k : Option ℕ). SparesLines mid k now) kept spares)
