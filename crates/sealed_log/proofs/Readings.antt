-- What is read of the records (this project).
use Rattle.std.proofs.Common.{◌≡◌, ◌≤◌, ◌<◌, ◌+◌, ◌-◌, ℕ, Bool, List, [], ◌++◌, length, take, drop, Option, None, Some, refl, sym, ap, ◌∙◌, arith}
use Rattle.std.specs.Io.KnownBytes.{append_known}
use Rattle.std.proofs.lemmas.List.{length-append, length-take, length-drop, take-append-drop, take-append-le, drop-append-le}
use Rattle.std.proofs.Math.Seq.{drop-append-add}
use Rattle.file_medium.specs.Files.{ReadsAt}
use Rattle.file_medium.specs.Copies.{IsFrontOf}
use Rattle.sealed_log.specs.Sealed.{closed_of, leaving_out, AreClosed, IsSealed}
use Rattle.sealed_log.proofs.Closing.{length-closed}

-- a read of the open batch
pub read-open : (closed at n : ℕ) (is_ended : Bool) (known : Option (List ℕ)) (batch buffer : List ℕ) → AreClosed closed is_ended known
    → closed ≤ at → ReadsAt (Some batch) (at - closed) n buffer → ReadsAt (append_known (closed_of closed known) batch) at n buffer
read-open closed at n is_ended None batch buffer are behind reads = tt
read-open closed at n is_ended (Some text) batch buffer is behind reads =
    let records = take closed (leaving_out 0 text) in
    let size = length-closed closed is_ended text is in
    let place : at ≡ length records + (at - closed) = omega (arith, size) in (
      reads.0 ∙ ap (take n) (sym (ap (λ (k : ℕ). drop k (records ++ batch)) place ∙ drop-append-add records batch (at - closed))),
      λ none some. omega (arith, reads.1 none some, size, length-append records batch),
    )

-- a read of the first records
front-read : (at n : ℕ) (records held more buffer : List ℕ) → held ≡ take (length held) records → at < length held
    → at + n ≤ length held → ReadsAt (Some held) at n buffer → ReadsAt (Some (records ++ more)) at n buffer
front-read at n records held more buffer front within fits reads =
    let short : length held ≤ length records = omega (arith, ap (length {A = ℕ}) front, length-take (length held) records) in
    let begins : held ≡ take (length held) (records ++ more) = front ∙ sym (take-append-le (length held) records more short) in
    let whole : records ++ more ≡ held ++ drop (length held) (records ++ more) =
    sym (take-append-drop (length held) (records ++ more)) ∙ ap (λ (l : List ℕ). l ++ drop (length held) (records ++ more)) (sym begins) in
    let next : take n (drop at (records ++ more)) ≡ take n (drop at held) =
    ap (λ (l : List ℕ). take n (drop at l)) whole
    ∙ ap (take n) (drop-append-le at held (drop (length held) (records ++ more)) (omega arith))
    ∙ take-append-le n (drop at held) (drop (length held) (records ++ more)) (omega (arith, length-drop at held)) in (
      reads.0 ∙ sym next,
      λ none some. absurd (omega (arith, reads.1 none some)),
    )

pub read-closed : (closed at n : ℕ) (known : Option (List ℕ)) (held batch buffer : List ℕ) → IsFrontOf (closed_of closed known) held
    → at < length held → at + n ≤ length held → ReadsAt (Some held) at n buffer → ReadsAt (append_known (closed_of closed known) batch) at n buffer
read-closed closed at n None held batch buffer front within fits reads = tt
read-closed closed at n (Some text) held batch buffer front within fits reads =
    front-read at n (take closed (leaving_out 0 text)) held batch buffer front within fits reads

-- no records are the first ones
pub front-none : (known : Option (List ℕ)) → IsFrontOf known []
front-none None = tt
front-none (Some xs) = refl

-- the first records are let go of
pub sealed-let-go : (closed : ℕ) (lost is_ended : Bool) (file safe : Option (List ℕ)) (records batch : List ℕ) (room opened : ℕ)
    → IsSealed closed lost is_ended file safe records batch room opened → IsSealed closed lost is_ended file safe [] batch room opened
sealed-let-go closed lost is_ended file safe records batch room opened is = record {
  is_closed = is.is_closed;
  is_safe = is.is_safe;
  few = omega arith;
  front = front-none (closed_of closed safe);
  whole = is.whole;
  has_room = is.has_room;
  opened_is = is.opened_is;
}
