-- The bytes with which the line of a note is spelled.
use Rattle.std.proofs.Common.{◌≡◌, ℕ, ◌<◌, ◌≤◌, ◌^◌, ◌/◌, ◌%◌, true, List, [], ◌∷◌, ◌++◌, codes, slice_index, refl, arith}
use Rattle.std.specs.List.{AllPass}
use Rattle.std.specs.Fmt.{decimal}
use Rattle.std.specs.Str.Parse.{AllDigits}
use Rattle.std.proofs.lemmas.Str.Parse.{digit_from_value}
use Rattle.std.proofs.lemmas.Fmt.{decimal_is_IsNumeral}
use Rattle.std.proofs.lemmas.Bool.{le-leb}
use Rattle.std.proofs.lemmas.List.Elements.{All-nil, All-cons, All-head, All-tail, All-append, All-get_or}
use Rattle.std.proofs.lemmas.List.Sums.{AllPass-from_list_all}
use Rattle.hex.specs.Hex.{encode_with, encode_upper, upper_digits}
use Rattle.caller_keys.specs.Keys.{is_key_byte, is_note_byte, KeyNote, IsNote, note_line}
use Rattle.caller_keys.proofs.Lines.{wide}
use Rattle.caller_keys.proofs.Keyed.{key_byte}

abbrev pub IsSpelled : List ℕ → Type 0
IsSpelled bytes = AllPass is_note_byte bytes

digit_spelled : (c : ℕ) → 48 ≤ c → c ≤ 57 → is_note_byte c ≡ true
unfolding is_note_byte
digit_spelled c low high = let a = le-leb 48 c low in let b = le-leb c 57 high in grind (arith, a, b)

digits_spelled : (ds : List ℕ) → AllDigits 10 ds → IsSpelled ds
digits_spelled [] h = All-nil (λ b. is_note_byte b ≡ true)
digits_spelled (c ∷ ds) h =
    let d = digit_from_value c h.0 in
    All-cons (λ b. is_note_byte b ≡ true) c ds (digit_spelled c d.0 d.1) (digits_spelled ds h.1)

number_spelled : (n : ℕ) → n < 2 ^ 64 → IsSpelled (decimal n)
number_spelled n lt = digits_spelled (decimal n) (decimal_is_IsNumeral n lt).0.1

table_spelled : IsSpelled upper_digits
unfolding is_note_byte
table_spelled = AllPass-from_list_all is_note_byte upper_digits refl

hex_spelled : (key : List ℕ) → AllPass is_key_byte key → IsSpelled (encode_with upper_digits key)
unfolding encode_with
hex_spelled [] all = All-nil (λ b. is_note_byte b ≡ true)
hex_spelled (b ∷ key) all =
    let byte : b < 256 = key_byte b (All-head (λ b. is_key_byte b ≡ true) b key all) in
    let high : b / 16 < 16 = omega (arith, byte) in
    let low : b % 16 < 16 = omega (arith, byte) in
    let rest = hex_spelled key (All-tail (λ b. is_key_byte b ≡ true) b key all) in
    All-cons (λ b. is_note_byte b ≡ true) (slice_index upper_digits (b / 16)) (slice_index upper_digits (b % 16) ∷ encode_with upper_digits key)
    (All-get_or (λ b. is_note_byte b ≡ true) upper_digits (b / 16) 0 high table_spelled)
    (All-cons (λ b. is_note_byte b ≡ true) (slice_index upper_digits (b % 16)) (encode_with upper_digits key)
    (All-get_or (λ b. is_note_byte b ≡ true) upper_digits (b % 16) 0 low table_spelled) rest)

letter_spelled : IsSpelled (codes "K ")
unfolding is_note_byte
letter_spelled = AllPass-from_list_all is_note_byte (codes "K ") refl

space_spelled : is_note_byte 32 ≡ true
unfolding is_note_byte
space_spelled = refl

end_spelled : IsSpelled (10 ∷ [])
unfolding is_note_byte
end_spelled = AllPass-from_list_all is_note_byte (10 ∷ []) refl

both : (a b : List ℕ) → IsSpelled a → IsSpelled b → IsSpelled (a ++ b)
both a b p q = All-append (λ b. is_note_byte b ≡ true) a b p q

spaced : (a : List ℕ) → IsSpelled a → IsSpelled (32 ∷ a)
spaced a p = All-cons (λ b. is_note_byte b ≡ true) 32 a space_spelled p

pub note_spelled : (n : KeyNote) → IsNote n → AllPass is_note_byte (note_line n)
note_spelled n is =
    let epoch = number_spelled n.txn.epoch (wide n.txn.epoch is.epoch) in
    let number = spaced (decimal n.txn.number) (number_spelled n.txn.number (wide n.txn.number is.number)) in
    let digits = spaced (encode_upper n.key) (hex_spelled n.key is.key.letters) in
    let first = both (codes "K ") (decimal n.txn.epoch) letter_spelled epoch in
    let second = both (codes "K " ++ decimal n.txn.epoch) (32 ∷ decimal n.txn.number) first number in
    let third = both (codes "K " ++ decimal n.txn.epoch ++ 32 ∷ decimal n.txn.number) (32 ∷ encode_upper n.key) second digits in
    both (codes "K " ++ decimal n.txn.epoch ++ 32 ∷ decimal n.txn.number ++ 32 ∷ encode_upper n.key) (10 ∷ []) third end_spelled
