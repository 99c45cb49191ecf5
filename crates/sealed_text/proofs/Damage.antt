-- One byte that was changed in a closed batch, or in the line that closes it.
use Rattle.std.proofs.Common.{append_assoc, ◌≡◌, ◌≢◌, inl, inr, ℕ, suc, zero, ◌+◌, ◌-◌, ◌%◌, ◌^◌, Ok, ◌<◌, ◌≤◌, true, false, List, [], ◌∷◌, ◌++◌, length, take, drop, All, slice_index, slice_set, refl, sym, ap, ◌∙◌, arith}
use Rattle.std.proofs.lemmas.Grind.{common_steps}
use Rattle.std.specs.List.{AllPass, sum}
use Rattle.std.specs.Int.{w32, to_be_bytes, from_be_bytes}
use Rattle.hex.specs.Hex.{IsBytes, decode_of}
use Rattle.hex.proofs.HexLemmas.{decode_of-encode_lower}
use Rattle.std.proofs.lemmas.List.Sums.{sum_by-set}
use Rattle.std.proofs.lemmas.Nat.{from_be_bytes-to_be_bytes_4}
use Rattle.std.proofs.lemmas.Bool.{cases_lt, cases_eq}
use Rattle.std.proofs.lemmas.List.{append-nil, append_cancel_right, length-append, length-set, take_at, set-append_left, set-append_right, set_split, get_or_append_left, get_or-append_right, get_or-set_same}
use Rattle.std.proofs.lemmas.List.Elements.{All-head, All-tail, All-get_or, All-set, All-take, All-drop, All-push}
use Rattle.sealed_text.specs.Seals.{weighted, digits_of, sum_of, sum_line, sealed_batch, sealed_text, end_batch, is_batch_byte, lines_of, IsBatch, IsRecords, IsDamaged, IsDamagedAt, ChangesByte}
use Rattle.sealed_text.specs.Rests.{IsClear, BeginsWithS}
use Rattle.sealed_text.proofs.Cuts.{length-digits_of, length-sum_line, end_is_batch, end_closed, batch_clear, line_begins, closed_cut, torn_more}

-- fronts of one length of the same bytes are one
same_fronts : (p q x y : List ℕ) → length p ≡ length q → p ++ x ≡ q ++ y → p ≡ q
same_fronts p q x y lengths is = sym (take_at p x (length q) lengths) ∙ ap (take (length q)) is ∙ take_at q y (length q) refl

same_sums : (a b : List ℕ) → sum_line a ≡ sum_line b → sum_of a ≡ sum_of b
same_sums a b is =
    let tails : sum_of a ++ 10 ∷ [] ≡ sum_of b ++ 10 ∷ [] = cc in
    append_cancel_right (sum_of a) (sum_of b) (10 ∷ []) tails

-- ---- the letter behind the `s` of a line, which is no batch's

u_is_none : (b : ℕ) → is_batch_byte b ≡ true → b ≢ 117
unfolding is_batch_byte
u_is_none b passes is =
    let none : is_batch_byte b ≡ false = ap is_batch_byte is in
    cc

-- behind an `s` in a batch there is no such letter
no_u : (y x z : List ℕ) → AllPass is_batch_byte y → y ++ 115 ∷ x ≢ 117 ∷ z
no_u [] x z all is =
    let letters : ◌≡◌ {A = ℕ} 115 117 = ap (λ (l : List ℕ). slice_index l 0) is in
    absurd (omega (arith, letters))
no_u (b ∷ y) x z all is =
    let first : b ≡ 117 = cc in
    u_is_none b (All-head (λ b. is_batch_byte b ≡ true) b y all) first

-- and where a line has no `s`, the letter stands in no batch
no_line : (p z c x : List ℕ) → IsClear p → AllPass is_batch_byte c → p ++ 117 ∷ z ≢ c ++ 115 ∷ x
no_line [] z [] x clear all is =
    let letters : ◌≡◌ {A = ℕ} 117 115 = ap (λ (l : List ℕ). slice_index l 0) is in
    absurd (omega (arith, letters))
no_line [] z (d ∷ c) x clear all is =
    let first : d ≡ 117 = cc in
    u_is_none d (All-head (λ b. is_batch_byte b ≡ true) d c all) first
no_line (q ∷ p) z [] x clear all is =
    let first : q ≡ 115 = cc in
    absurd (All-head (λ b. b ≢ 115) q p clear first)
no_line (q ∷ p) z (d ∷ c) x clear all is =
    let rest : p ++ 117 ∷ z ≡ c ++ 115 ∷ x = cc in
    no_line p z c x (All-tail (λ b. b ≢ 115) q p clear) (All-tail (λ b. is_batch_byte b ≡ true) d c all) rest

-- ---- where the byte stands

-- in the batch, and it is no `s` now
in_batch : (b now t c v : List ℕ) → IsClear now → IsBatch c → now ++ (sum_line b ++ t) ≡ sealed_batch c ++ v → sum_of now ≡ sum_of b
in_batch b now t c v clear batch is =
    let cut = closed_cut now (sum_line b ++ t) c v clear (line_begins b t) batch is in
    same_sums now b (sym (same_fronts (sum_line b) (sum_line now) t v (length-sum_line b ∙ sym (length-sum_line now)) cut.behind))

-- in the batch, and it is an `s` now
s_in_batch : (a y x c v : List ℕ) → IsClear a → AllPass is_batch_byte y → IsBatch c → a ++ 115 ∷ (y ++ 115 ∷ x) ≢ sealed_batch c ++ v
s_in_batch a y x c v clear all batch is =
    let cut = closed_cut a (115 ∷ (y ++ 115 ∷ x)) c v clear (record { more = y ++ 115 ∷ x; is = refl }) batch is in
    let behind : 115 ∷ (y ++ 115 ∷ x) ≡ 115 ∷ 117 ∷ 109 ∷ 32 ∷ ((sum_of a ++ 10 ∷ []) ++ v) = cut.behind in
    let second : y ++ 115 ∷ x ≡ 117 ∷ 109 ∷ 32 ∷ ((sum_of a ++ 10 ∷ []) ++ v) = cc in
    no_u y x _ all second

-- at the `s` of the line
at_s : (b x t c v : List ℕ) (byte : ℕ) → IsBatch b → byte ≢ 115 → IsBatch c → b ++ (byte ∷ 117 ∷ (x ++ t)) ≢ sealed_batch c ++ v
at_s b x t c v byte batch other closed is =
    let clear : IsClear (b ++ byte ∷ []) = All-push (λ b. b ≢ 115) b byte (batch_clear b batch) other in
    no_line (b ++ byte ∷ []) (x ++ t) c _ clear closed.letters
    (append_assoc b (byte ∷ []) (117 ∷ (x ++ t)) ∙ is ∙ append_assoc c (sum_line c) v)

-- behind the `s` of the line
behind_s : (b line t c v : List ℕ) → IsBatch b → BeginsWithS line → length line ≡ 21 → IsBatch c → b ++ (line ++ t) ≡ sealed_batch c ++ v
    → line ≡ sum_line b
behind_s b line t c v batch first lengths closed is =
    let with_s : BeginsWithS (line ++ t) = record { more = first.more ++ t; is = ap (λ (l : List ℕ). l ++ t) first.is } in
    let cut = closed_cut b (line ++ t) c v (batch_clear b batch) with_s closed is in
    same_fronts line (sum_line b) t v (lengths ∙ sym (length-sum_line b)) cut.behind

-- ---- the changed bytes

-- a byte that was set is there
set_is : (l : List ℕ) (k byte : ℕ) → k < length l → byte ≢ slice_index l k → slice_set l k byte ≢ l
set_is l k byte less other is =
    let there : slice_index (slice_set l k byte) k ≡ byte = get_or-set_same l k byte 0 less in
    other (sym there ∙ ap (λ (m : List ℕ). slice_index m k) is)

set_in_line : (b t c v : List ℕ) (k byte : ℕ) → IsBatch b → k < 21 → byte ≢ slice_index (sum_line b) k → IsBatch c
    → b ++ (slice_set (sum_line b) k byte ++ t) ≢ sealed_batch c ++ v
set_in_line b t c v zero byte batch less other closed is = at_s b (109 ∷ 32 ∷ (sum_of b ++ 10 ∷ [])) t c v byte batch other closed is
set_in_line b t c v (suc k) byte batch less other closed is =
    let line = slice_set (sum_line b) (suc k) byte in
    let lengths : length line ≡ 21 = length-set (sum_line b) (suc k) byte ∙ length-sum_line b in
    let same = behind_s b line t c v batch (record { more = _; is = refl }) lengths closed is in
    set_is (sum_line b) (suc k) byte (omega (arith, less, length-sum_line b)) other same

-- ---- another byte, another sum

-- all bytes of a number are bytes
be_bytes : (n : ℕ) → IsBytes (to_be_bytes w32 n)
be_bytes n zero = omega arith
be_bytes n (suc zero) = omega arith
be_bytes n (suc (suc zero)) = omega arith
be_bytes n (suc (suc (suc zero))) = omega arith
be_bytes n (suc (suc (suc (suc i)))) = omega arith

-- digits tell their number, modulo 2^32
digits_tell : (m n : ℕ) → digits_of m ≡ digits_of n → m % 2 ^ 32 ≡ n % 2 ^ 32
digits_tell m n same =
    let read : Ok (to_be_bytes w32 (m % 2 ^ 32)) ≡ Ok (to_be_bytes w32 (n % 2 ^ 32)) =
    sym (decode_of-encode_lower (to_be_bytes w32 (m % 2 ^ 32)) (be_bytes (m % 2 ^ 32)))
    ∙ ap decode_of same
    ∙ decode_of-encode_lower (to_be_bytes w32 (n % 2 ^ 32)) (be_bytes (n % 2 ^ 32)) in
    let bytes : to_be_bytes w32 (m % 2 ^ 32) ≡ to_be_bytes w32 (n % 2 ^ 32) = cc in
    sym (from_be_bytes-to_be_bytes_4 (m % 2 ^ 32) (omega arith))
    ∙ ap (from_be_bytes w32) bytes
    ∙ from_be_bytes-to_be_bytes_4 (n % 2 ^ 32) (omega arith)

-- the first eight digits are those of what the bytes add up to
first_digits : (x y : List ℕ) → sum_of x ≡ sum_of y → digits_of (sum x) ≡ digits_of (sum y)
unfolding sum_of
first_digits x y same =
    let cut : (z : List ℕ) → take 8 (digits_of (sum z) ++ digits_of (weighted z)) ≡ digits_of (sum z) =
    λ z. take_at (digits_of (sum z)) (digits_of (weighted z)) 8 (length-digits_of (sum z)) in
    sym (cut x) ∙ ap (take 8) same ∙ cut y

-- numbers that differ by less than 256 differ modulo 2^32
near : (m n a b : ℕ) → m + a ≡ n + b → m % 2 ^ 32 ≡ n % 2 ^ 32 → a < 256 → b < 256 → b ≡ a
near m n a b is same small few = omega arith

byte_small : (b : ℕ) → is_batch_byte b ≡ true → b < 256
unfolding is_batch_byte
byte_small b passes = grind (arith, common_steps)

other_sum : (b : List ℕ) (k byte : ℕ) → IsBatch b → k < length b → byte < 256 → byte ≢ slice_index b k
    → sum_of (slice_set b k byte) ≢ sum_of b
other_sum b k byte batch less fits other same =
    let sums : sum (slice_set b k byte) + slice_index b k ≡ sum b + byte = sum_by-set (λ x. x) b k byte 0 less in
    let small : slice_index b k < 256 = byte_small (slice_index b k) (All-get_or (λ b. is_batch_byte b ≡ true) b k 0 less batch.letters) in
    other (near (sum (slice_set b k byte)) (sum b) (slice_index b k) byte sums
    (digits_tell (sum (slice_set b k byte)) (sum b) (first_digits (slice_set b k byte) b same)) small fits)

set_in_batch : (b t c v : List ℕ) (k byte : ℕ) → IsBatch b → k < length b → byte < 256 → byte ≢ slice_index b k → IsBatch c
    → slice_set b k byte ++ (sum_line b ++ t) ≢ sealed_batch c ++ v
set_in_batch b t c v k byte batch less fits other closed is =
    elim (cases_eq byte 115) [
      | inl same ↦
          let cut : slice_set b k byte ≡ take k b ++ 115 ∷ drop (suc k) b = ap (slice_set b k) same ∙ set_split b k 115 less in
          let whole : take k b ++ 115 ∷ (drop (suc k) b ++ (sum_line b ++ t)) ≡ sealed_batch c ++ v =
          sym (append_assoc (take k b) (115 ∷ drop (suc k) b) (sum_line b ++ t))
          ∙ ap (λ (l : List ℕ). l ++ (sum_line b ++ t)) (sym cut) ∙ is in
          s_in_batch (take k b) (drop (suc k) b) _ c v (All-take (λ b. b ≢ 115) k b (batch_clear b batch))
          (All-drop (λ b. is_batch_byte b ≡ true) (suc k) b batch.letters) closed whole
      | inr not ↦
          let clear : IsClear (slice_set b k byte) = All-set (λ b. b ≢ 115) b k byte not (batch_clear b batch) in
          other_sum b k byte batch less fits other (in_batch b (slice_set b k byte) t c v clear closed is)
    ]

-- no closed batch stands there, nor a front of one
no_seal : (b t c v : List ℕ) (k byte : ℕ) → IsBatch b → k < length (sealed_batch b) → byte < 256 → byte ≢ slice_index (sealed_batch b) k
    → IsBatch c → slice_set (sealed_batch b) k byte ++ t ≢ sealed_batch c ++ v
no_seal b t c v k byte batch less fits other closed is =
    elim (cases_lt k (length b)) [
      | inl front ↦
          let here : slice_set (sealed_batch b) k byte ++ t ≡ slice_set b k byte ++ (sum_line b ++ t) =
          ap (λ (l : List ℕ). l ++ t) (set-append_left b (sum_line b) k byte front) ∙ append_assoc (slice_set b k byte) (sum_line b) t in
          let read : slice_index (sealed_batch b) k ≡ slice_index b k = get_or_append_left b (sum_line b) 0 k front in
          set_in_batch b t c v k byte batch front fits (λ e. other (e ∙ sym read)) closed (sym here ∙ is)
      | inr back ↦
          let past : length b ≤ k = omega (arith, back) in
          let here : slice_set (sealed_batch b) k byte ++ t ≡ b ++ (slice_set (sum_line b) (k - length b) byte ++ t) =
          ap (λ (l : List ℕ). l ++ t) (set-append_right b (sum_line b) (length b) k byte refl past)
          ∙ append_assoc b (slice_set (sum_line b) (k - length b) byte) t in
          let read : slice_index (sealed_batch b) k ≡ slice_index (sum_line b) (k - length b) =
          get_or-append_right b (sum_line b) (length b) k 0 refl past in
          let within : k - length b < 21 = omega (arith, less, past, length-append b (sum_line b), length-sum_line b) in
          set_in_line b t c v (k - length b) byte batch within (λ e. other (e ∙ sym read)) closed (sym here ∙ is)
    ]

changed_damaged : (b changed rest : List ℕ) → IsBatch b → ChangesByte (sealed_batch b) changed
    → IsDamaged (changed ++ rest)
changed_damaged b changed rest batch change =
    let none : (c t v : List ℕ) → IsBatch c → changed ++ t ≢ sealed_batch c ++ v =
    λ c t v closed is. no_seal b t c v change.place change.byte batch change.within change.fits change.other closed
    (ap (λ (l : List ℕ). l ++ t) (sym change.after_is) ∙ is) in
    record {
      no_end = λ end. none end_batch rest [] end_is_batch (end_closed (changed ++ rest) end);
      not_torn = λ torn. none torn.batch (rest ++ drop (length (changed ++ rest)) (sealed_batch torn.batch)) [] torn.is_batch
          (sym (append_assoc changed rest (drop (length (changed ++ rest)) (sealed_batch torn.batch))) ∙ torn_more (changed ++ rest) torn
          ∙ sym (append-nil (sealed_batch torn.batch)));
      not_closed = λ c more records is. none c rest more records.batch is;
    }

pub changed_byte : (batches : List (List ℕ)) (b changed rest : List ℕ) → All IsRecords batches → IsBatch b
    → ChangesByte (sealed_batch b) changed → IsDamagedAt (sealed_text batches ++ (changed ++ rest)) (1 + lines_of (sealed_text batches))
changed_byte batches b changed rest all batch change = record {
  batches = batches;
  rest = changed ++ rest;
  begins = record { records = all; text_is = refl };
  damaged = changed_damaged b changed rest batch change;
  line_is = refl;
}
