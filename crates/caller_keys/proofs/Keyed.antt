-- Keys and their digits.
use Rattle.std.proofs.Common.{◌≡◌, ◌≢◌, ◌⊎◌, ℕ, ◌<◌, true, false, List, [], ◌∷◌, Result, Ok, Err, inl, inr, bytes_eq, zero, suc, sym, ap, ◌∙◌, arith}
use Rattle.std.specs.List.{AllPass}
use Rattle.std.proofs.lemmas.List.Elements.{All-head, All-tail}
use Rattle.std.proofs.lemmas.Slice.Eq.{bytes_eq-Decides}
use Rattle.hex.specs.Hex.{encode_upper, decode_of, IsBytes}
use Rattle.hex.proofs.HexLemmas.{decode_of-encode_upper}
use Rattle.hex.specs.declared.error.FromHexError.{FromHexError}
use Rattle.hex.specs.declared.error.FromHexError.TheVariants.{OutOfMemory}
use Rattle.caller_keys.specs.Keys.{is_key_byte, IsKey}

-- a byte of a key is a byte
pub key_byte : (b : ℕ) → is_key_byte b ≡ true → b < 256
unfolding is_key_byte
key_byte b passes = grind (arith, passes)

key_bytes : (key : List ℕ) → AllPass is_key_byte key → IsBytes key
key_bytes [] all i = omega arith
key_bytes (b ∷ key) all zero = key_byte b (All-head (λ b. is_key_byte b ≡ true) b key all)
key_bytes (b ∷ key) all (suc i) = key_bytes key (All-tail (λ b. is_key_byte b ≡ true) b key all) i

-- the digits of a key tell it
pub key_again : (key : List ℕ) → IsKey key → decode_of (encode_upper key) ≡ Ok key
key_again key is = decode_of-encode_upper key (key_bytes key is.letters)

pub decoded : (digits key : List ℕ) → IsKey key → digits ≡ encode_upper key → decode_of digits ≡ Ok key
decoded digits key is spelled = ap decode_of spelled ∙ key_again key is

-- one text of digits is that of one key
pub one_key : (digits bytes key : List ℕ) → decode_of digits ≡ Ok bytes → IsKey key → digits ≡ encode_upper key → bytes ≡ key
one_key digits bytes key is valid spelled =
    let again = decoded digits key valid spelled in
    let same : ◌≡◌ {A = Result (List ℕ) FromHexError} (Ok bytes) (Ok key) = sym is ∙ again in
    cc

-- digits that are refused are no key's
pub no_key : (digits : List ℕ) (e : FromHexError) → (e ≡ OutOfMemory) ⊎ (decode_of digits ≡ Err e) → (e ≡ OutOfMemory → ⊥) → (key : List ℕ)
    → IsKey key → digits ≢ encode_upper key
no_key digits e (inl is) other key valid spelled = other is
no_key digits e (inr is) other key valid spelled =
    let again : decode_of digits ≡ Ok key = decoded digits key valid spelled in
    cc

-- nor are digits that are spelled otherwise
pub not_again : (digits bytes again : List ℕ) → decode_of digits ≡ Ok bytes → again ≡ encode_upper bytes → bytes_eq again digits ≡ false
    → (key : List ℕ) → IsKey key → digits ≢ encode_upper key
not_again digits bytes again is anew other key valid spelled =
    let same = one_key digits bytes key is valid spelled in
    let alike : bytes_eq again digits ≡ true = (bytes_eq-Decides again digits).1 (anew ∙ ap encode_upper same ∙ sym spelled) in
    cc
