-- The one way in which bytes are cut into a batch and the line that closes it.
use Rattle.std.proofs.Common.{append_assoc, ◌≡◌, ◌≢◌, ℕ, ◌%◌, ◌^◌, ◌==◌, ◌⊎◌, true, false, List, [], ◌∷◌, ◌++◌, inl, inr, length, take, drop, bytes_eq, refl, sym, ap, subst, ◌∙◌, arith}
use Rattle.std.specs.List.{AllPass}
use Rattle.std.proofs.lemmas.List.{append-nil, append_cancel_left, take-append-drop, take_at, length-append}
use Rattle.std.proofs.lemmas.List.Elements.{All-nil, All-cons, All-head, All-tail, All-same, All-push}
use Rattle.hex.specs.Hex.{encode_with, encode_lower, lower_digits}
use Rattle.hex.proofs.HexLemmas.{length-encode_with}
use Rattle.std.specs.Int.{w32, to_be_bytes}
use Rattle.std.specs.List.{sum}
use Rattle.std.proofs.lemmas.Slice.Eq.{bytes_eq-Decides}
use Rattle.sealed_text.specs.Seals.{weighted, digits_of, sum_of, sum_line, sealed_batch, end_batch, is_batch_byte, IsBatch, IsTorn, IsEnd, IsDamaged}
use Rattle.sealed_text.specs.Rests.{IsClear, BeginsWithS}

-- ---- sums

-- the digits of both sums are those of their bytes together
pub sum_is : (bytes : List ℕ)
    → encode_lower (to_be_bytes w32 (sum bytes % 2 ^ 32) ++ to_be_bytes w32 (weighted bytes % 2 ^ 32)) ≡ sum_of bytes
unfolding sum_of encode_with
sum_is bytes = refl

-- a number has 8 digits
pub length-digits_of : (n : ℕ) → length (digits_of n) ≡ 8
length-digits_of n = length-encode_with lower_digits (to_be_bytes w32 (n % 2 ^ 32))

pub length-sum_of : (bytes : List ℕ) → length (sum_of bytes) ≡ 16
unfolding sum_of
length-sum_of bytes =
    let first = length-digits_of (sum bytes) in
    let second = length-digits_of (weighted bytes) in
    let both = length-append (digits_of (sum bytes)) (digits_of (weighted bytes)) in
    omega (arith, first, second, both)

-- a line that closes a batch has 21 bytes
pub length-sum_line : (batch : List ℕ) → length (sum_line batch) ≡ 21
length-sum_line batch =
    let sum = length-sum_of batch in
    let more = length-append (sum_of batch) (10 ∷ []) in
    omega (arith, sum, more)

-- ---- clear bytes

clear_byte : (b : ℕ) → is_batch_byte b ≡ true → b ≢ 115
unfolding is_batch_byte
clear_byte b passes is =
    let none : is_batch_byte b ≡ false = ap is_batch_byte is in
    cc

pub letters_clear : (bytes : List ℕ) → AllPass is_batch_byte bytes → IsClear bytes
letters_clear [] all = All-nil (λ b. b ≢ 115)
letters_clear (b ∷ bytes) all =
    All-cons (λ b. b ≢ 115) b bytes (clear_byte b (All-head (λ b. is_batch_byte b ≡ true) b bytes all))
    (letters_clear bytes (All-tail (λ b. is_batch_byte b ≡ true) b bytes all))

has_s : (a x : List ℕ) → IsClear (a ++ 115 ∷ x) → ⊥
has_s [] x clear = All-head (λ b. b ≢ 115) 115 x clear refl
has_s (b ∷ a) x clear = has_s a x (All-tail (λ b. b ≢ 115) b (a ++ 115 ∷ x) clear)

-- clear bytes that are a front of clear ones with an `s` behind them are a front of the clear ones
front_passes : (a more b x : List ℕ) → IsClear a → AllPass is_batch_byte b → a ++ more ≡ b ++ 115 ∷ x → AllPass is_batch_byte a
front_passes [] more b x clear all is = All-nil (λ b. is_batch_byte b ≡ true)
front_passes (c ∷ a) more [] x clear all is =
    let same : c ≡ 115 = cc in
    absurd (All-head (λ b. b ≢ 115) c a clear same)
front_passes (c ∷ a) more (d ∷ b) x clear all is =
    let same : c ≡ d = cc in
    let rest : a ++ more ≡ b ++ 115 ∷ x = cc in
    let first : is_batch_byte d ≡ true = All-head (λ b. is_batch_byte b ≡ true) d b all in
    All-cons (λ b. is_batch_byte b ≡ true) c a (ap is_batch_byte same ∙ first)
    (front_passes a more b x (All-tail (λ b. b ≢ 115) c a clear) (All-tail (λ b. is_batch_byte b ≡ true) d b all) rest)

-- ---- cuts

-- two cuts of the same bytes at their first `s` are one
pub record Same (a b x y : List ℕ) : Type 0 where
  pub front : a ≡ b
  pub behind : x ≡ y

pub one_cut : (a b x y : List ℕ) → IsClear a → IsClear b → a ++ 115 ∷ x ≡ b ++ 115 ∷ y → Same a b (115 ∷ x) (115 ∷ y)
one_cut [] [] x y p q e = record { front = refl; behind = e }
one_cut [] (b ∷ bs) x y p q e = let is : b ≡ 115 = cc in absurd (All-head (λ b. b ≢ 115) b bs q is)
one_cut (a ∷ as1) [] x y p q e = let is : a ≡ 115 = cc in absurd (All-head (λ b. b ≢ 115) a as1 p is)
one_cut (a ∷ as1) (b ∷ bs) x y p q e =
    let tails : as1 ++ 115 ∷ x ≡ bs ++ 115 ∷ y = cc in
    let r = one_cut as1 bs x y (All-tail (λ b. b ≢ 115) a as1 p) (All-tail (λ b. b ≢ 115) b bs q) tails in
    let heads : a ≡ b = cc in
    record { front = ap (λ (z : ℕ). z ∷ as1) heads ∙ ap (λ (l : List ℕ). b ∷ l) r.front; behind = r.behind }

pub batch_clear : (b : List ℕ) → IsBatch b → IsClear b
batch_clear b is = letters_clear b is.letters

-- bytes that begin with a closed batch are cut behind it
pub closed_cut : (a behind b more : List ℕ) → IsClear a → BeginsWithS behind → IsBatch b → a ++ behind ≡ sealed_batch b ++ more
    → Same a b behind (sum_line a ++ more)
closed_cut a behind b more clear first batch is =
    let with_s : a ++ behind ≡ a ++ 115 ∷ first.more = ap (λ (l : List ℕ). a ++ l) first.is in
    let other : sealed_batch b ++ more ≡ b ++ (sum_line b ++ more) = append_assoc b (sum_line b) more in
    let same = one_cut a b first.more _ clear (batch_clear b batch) (sym with_s ∙ is ∙ other) in
    record {
      front = same.front;
      behind = first.is ∙ same.behind ∙ ap (λ (l : List ℕ). sum_line l ++ more) (sym same.front);
    }

-- ---- what a stop leaves

-- a proper front of a closed batch
pub torn_from : (rest more b : List ℕ) → IsBatch b → rest ++ more ≡ sealed_batch b → more ≢ [] → IsTorn rest
torn_from rest [] b batch is some = absurd (some refl)
torn_from rest (x ∷ more) b batch is some = record {
  batch = b;
  is_batch = batch;
  front = sym (take_at rest (x ∷ more) (length rest) refl) ∙ ap (take (length rest)) is;
  less = omega (arith, length-append rest (x ∷ more), ap (length {A = ℕ}) is);
}

-- what is wanting of it
pub torn_more : (rest : List ℕ) (torn : IsTorn rest) → rest ++ drop (length rest) (sealed_batch torn.batch) ≡ sealed_batch torn.batch
torn_more rest torn =
    ap (λ (l : List ℕ). l ++ drop (length rest) (sealed_batch torn.batch)) torn.front
    ∙ take-append-drop (length rest) (sealed_batch torn.batch)

pub torn_some : (rest : List ℕ) (torn : IsTorn rest) → drop (length rest) (sealed_batch torn.batch) ≢ []
torn_some rest torn none =
    let all = torn_more rest torn in
    let sum = length-append rest (drop (length rest) (sealed_batch torn.batch)) in
    let nothing : length (drop (length rest) (sealed_batch torn.batch)) ≡ 0 = ap length none in
    let less = torn.less in
    let lengths : length (rest ++ drop (length rest) (sealed_batch torn.batch)) ≡ length (sealed_batch torn.batch) = ap length all in
    absurd (omega (arith, sum, nothing, less, lengths))

-- where a stop left it, from the first `s` on
pub record TornCut (a behind : List ℕ) : Type 0 where
  pub is_batch : IsBatch a
  pub more : List ℕ
  pub front : behind ++ more ≡ sum_line a
  pub some : more ≢ []

pub torn_cut : (a behind : List ℕ) → IsClear a → BeginsWithS behind → IsTorn (a ++ behind) → TornCut a behind
torn_cut a behind clear first torn =
    let more = drop (length (a ++ behind)) (sealed_batch torn.batch) in
    let whole : a ++ (behind ++ more) ≡ sealed_batch torn.batch = sym (append_assoc a behind more) ∙ torn_more (a ++ behind) torn in
    let with_s : BeginsWithS (behind ++ more) = record { more = first.more ++ more; is = ap (λ (l : List ℕ). l ++ more) first.is } in
    let same = closed_cut a (behind ++ more) torn.batch [] clear with_s torn.is_batch
    (whole ∙ sym (append-nil (sealed_batch torn.batch))) in
    record {
      is_batch = subst IsBatch (sym same.front) torn.is_batch;
      more = more;
      front = same.behind ∙ append-nil (sum_line a);
      some = torn_some (a ++ behind) torn;
    }

-- a front of a batch
pub torn_letters : (a : List ℕ) → AllPass is_batch_byte a → IsTorn a
unfolding is_batch_byte
torn_letters a all =
    let batch : IsBatch (a ++ 10 ∷ []) = record {
      letters = All-push (λ b. is_batch_byte b ≡ true) a 10 all refl;
      last = record { before = a; ends = refl };
    } in
    torn_from a (10 ∷ sum_line (a ++ 10 ∷ [])) (a ++ 10 ∷ []) batch (sym (append_assoc a (10 ∷ []) (sum_line (a ++ 10 ∷ [])))) (λ is. cc)

-- ---- damage

pub end_is_batch : IsBatch end_batch
unfolding is_batch_byte
end_is_batch = record {
  letters = All-cons (λ b. is_batch_byte b ≡ true) 88 (10 ∷ []) refl
      (All-cons (λ b. is_batch_byte b ≡ true) 10 [] refl (All-nil (λ b. is_batch_byte b ≡ true)));
  last = record { before = 88 ∷ []; ends = refl };
}

-- the end is a closed batch
pub end_closed : (bytes : List ℕ) → IsEnd true bytes → bytes ≡ sealed_batch end_batch ++ []
end_closed bytes end = end ∙ sym (append-nil (sealed_batch end_batch))

-- no `s`, and bytes that are no batch's
pub damaged_letters : (a : List ℕ) → IsClear a → (AllPass is_batch_byte a → ⊥) → IsDamaged a
damaged_letters a clear none =
    let no_closed : (b more : List ℕ) → a ≢ sealed_batch b ++ more =
    λ b more is. has_s b _ (All-same (λ b. b ≢ 115) _ a (sym (is ∙ append_assoc b (sum_line b) more)) clear) in
    record {
      no_end = λ end. no_closed end_batch [] (end_closed a end);
      not_torn = λ torn. none (front_passes a _ torn.batch _ clear torn.is_batch.letters (torn_more a torn));
      not_closed = λ b more records is. no_closed b more is;
    }

-- bytes that are no batch before the first `s`
pub damaged_batch : (a behind : List ℕ) → IsClear a → BeginsWithS behind → (IsBatch a → ⊥) → IsDamaged (a ++ behind)
damaged_batch a behind clear first none =
    let no_closed : (b more : List ℕ) → IsBatch b → a ++ behind ≢ sealed_batch b ++ more =
    λ b more batch is. none (subst IsBatch (sym (closed_cut a behind b more clear first batch is).front) batch) in
    record {
      no_end = λ end. no_closed end_batch [] end_is_batch (end_closed (a ++ behind) end);
      not_torn = λ torn. none (torn_cut a behind clear first torn).is_batch;
      not_closed = λ b more records is. no_closed b more records.batch is;
    }

-- a batch, and behind it neither the line that closes it nor a front of it
pub damaged_sum : (a behind : List ℕ) → IsClear a → BeginsWithS behind → ((more : List ℕ) → behind ≢ sum_line a ++ more)
    → ((more : List ℕ) → sum_line a ≢ behind ++ more) → IsDamaged (a ++ behind)
damaged_sum a behind clear first other no_front =
    let no_closed : (b more : List ℕ) → IsBatch b → a ++ behind ≢ sealed_batch b ++ more =
    λ b more batch is. other more (closed_cut a behind b more clear first batch is).behind in
    record {
      no_end = λ end. no_closed end_batch [] end_is_batch (end_closed (a ++ behind) end);
      not_torn = λ torn. let cut = torn_cut a behind clear first torn in no_front cut.more (sym cut.front);
      not_closed = λ b more records is. no_closed b more records.batch is;
    }

pub line_begins : (a rest : List ℕ) → BeginsWithS (sum_line a ++ rest)
line_begins a rest = record { more = _; is = refl }

nothing_behind : (a b : List ℕ) → a ++ b ≡ [] → b ≡ []
nothing_behind [] b is = is
nothing_behind (x ∷ a) b is = absurd cc

-- no closed batch with bytes behind it was left by a stop
pub closed_not_torn : (a rest : List ℕ) → IsBatch a → IsTorn (a ++ (sum_line a ++ rest)) → ⊥
closed_not_torn a rest batch torn =
    let cut = torn_cut a (sum_line a ++ rest) (batch_clear a batch) (line_begins a rest) torn in
    let none : rest ++ cut.more ≡ [] =
    append_cancel_left (sum_line a) _ _ (sym (append_assoc (sum_line a) rest cut.more) ∙ cut.front ∙ sym (append-nil (sum_line a))) in
    cut.some (nothing_behind rest cut.more none)

-- bytes behind the end of the world
pub damaged_end : (a rest : List ℕ) → a ≡ end_batch → rest ≢ [] → IsDamaged (a ++ (sum_line a ++ rest))
damaged_end a rest end some =
    let batch : IsBatch a = subst IsBatch (sym end) end_is_batch in
    let cut : (b more : List ℕ) → IsBatch b → a ++ (sum_line a ++ rest) ≡ sealed_batch b ++ more
    → Same a b (sum_line a ++ rest) (sum_line a ++ more) =
    λ b more other is. closed_cut a (sum_line a ++ rest) b more (batch_clear a batch) (line_begins a rest) other is in
    record {
      no_end = λ is. some (append_cancel_left (sum_line a) rest [] (cut end_batch [] end_is_batch (end_closed _ is)).behind);
      not_torn = λ torn. closed_not_torn a rest batch torn;
      not_closed = λ b more records is. records.other (sym (cut b more records.batch is).front ∙ end);
    }

-- the end of the world
pub ended : (a rest : List ℕ) → a ≡ end_batch → rest ≡ [] → a ++ (sum_line a ++ rest) ≡ sealed_batch end_batch
ended a rest end none =
    ap (λ (l : List ℕ). a ++ (sum_line a ++ l)) none ∙ ap (λ (l : List ℕ). a ++ l) (append-nil (sum_line a))
    ∙ ap (λ (l : List ℕ). sealed_batch l) end

-- the bytes before the first `s` where there is none
pub alone : (bytes a rest : List ℕ) → bytes ≡ a ++ rest → rest ≡ [] → a ≡ bytes
alone bytes a rest is none = sym (append-nil a) ∙ ap (λ (l : List ℕ). a ++ l) (sym none) ∙ sym is

-- ---- lines at the front

pub begins_with : (bytes rest line : List ℕ) → bytes_eq (take (length line) bytes) line ≡ true → rest ≡ drop (length line) bytes
    → bytes ≡ line ++ rest
begins_with bytes rest line same is =
    let front : take (length line) bytes ≡ line = (bytes_eq-Decides (take (length line) bytes) line).0 same in
    sym (take-append-drop (length line) bytes) ∙ ap (λ (l : List ℕ). l ++ drop (length line) bytes) front
    ∙ ap (λ (l : List ℕ). line ++ l) (sym is)

pub begins_not : (bytes line : List ℕ) → bytes_eq (take (length line) bytes) line ≡ false → (rest : List ℕ) → bytes ≢ line ++ rest
begins_not bytes line other rest is =
    let front : take (length line) bytes ≡ line = ap (take (length line)) is ∙ take_at line rest (length line) refl in
    let same : bytes_eq (take (length line) bytes) line ≡ true = (bytes_eq-Decides (take (length line) bytes) line).1 front in
    cc

-- bytes that begin with an `s`, or there are none
pub begins_s : (bytes : List ℕ) → (bytes ≡ []) ⊎ BeginsWithS bytes → false ≡ (length bytes == 0) → BeginsWithS bytes
begins_s bytes (inr first) some = first
begins_s [] (inl none) some = absurd cc
begins_s (b ∷ bytes) (inl none) some = absurd cc

pub is_some : (bytes : List ℕ) → false ≡ (length bytes == 0) → bytes ≢ []
is_some [] some none = absurd cc
is_some (b ∷ bytes) some none = absurd cc
