-- Closed batches that are taken in, one by one.
use Rattle.std.proofs.Common.{append_assoc, ◌≡◌, ℕ, ◌+◌, ◌-◌, ◌<◌, ◌≤◌, Bool, true, false, List, [], ◌∷◌, ◌++◌, length, take, refl, sym, ap, subst, ◌∙◌, arith}
use Rattle.std.specs.List.{concat}
use Rattle.std.proofs.lemmas.List.{append-nil, length-append, take_at}
use Rattle.std.proofs.lemmas.List.Elements.{All-nil, All-push}
use Rattle.sealed_text.specs.declared.reading.Unsealed.{Unsealed}
use Rattle.sealed_text.specs.Seals.{sum_of, sum_line, sealed_batch, sealed_text, closed_text, lines_of, IsRecords, IsEnd, IsDamaged, IsDamagedAt, Unseals}
use Rattle.sealed_text.specs.Rests.{Taken}

sealed_text-push : (batches : List (List ℕ)) (b : List ℕ) → sealed_text (batches ++ b ∷ []) ≡ sealed_text batches ++ sealed_batch b
sealed_text-push [] b = append-nil (sealed_batch b)
sealed_text-push (c ∷ batches) b =
    ap (λ (l : List ℕ). sealed_batch c ++ l) (sealed_text-push batches b)
    ∙ sym (append_assoc (sealed_batch c) (sealed_text batches) (sealed_batch b))

concat-push : (batches : List (List ℕ)) (b : List ℕ) → concat (batches ++ b ∷ []) ≡ concat batches ++ b
concat-push [] b = append-nil b
concat-push (c ∷ batches) b = ap (λ (l : List ℕ). c ++ l) (concat-push batches b) ∙ sym (append_assoc c (concat batches) b)

-- nothing is taken in
pub taken_none : (text : List ℕ) → Taken text text []
taken_none text = record { batches = []; begins = record { records = All-nil IsRecords; text_is = refl }; records_are = refl }

-- one more batch
pub taken_more : (text rest records b behind : List ℕ) → Taken text rest records → IsRecords b → rest ≡ sealed_batch b ++ behind
    → Taken text behind (records ++ b)
taken_more text rest records b behind taken one is = record {
  batches = taken.batches ++ b ∷ [];
  begins = record {
    records = All-push IsRecords taken.batches b taken.begins.records one;
    text_is = taken.begins.text_is ∙ ap (λ (l : List ℕ). sealed_text taken.batches ++ l) is
        ∙ sym (append_assoc (sealed_text taken.batches) (sealed_batch b) behind)
        ∙ ap (λ (l : List ℕ). l ++ behind) (sym (sealed_text-push taken.batches b));
  };
  records_are = ap (λ (l : List ℕ). l ++ b) taken.records_are ∙ sym (concat-push taken.batches b);
}

-- less stands behind it
pub behind_less : (text rest b behind : List ℕ) → length rest ≤ length text → rest ≡ sealed_batch b ++ behind → length behind ≤ length text
behind_less text rest b behind less is =
    let sum = length-append (sealed_batch b) behind in
    let lengths : length rest ≡ length (sealed_batch b ++ behind) = ap length is in
    omega (arith, less, sum, lengths)

-- and less than before
pub less_behind : (rest b behind : List ℕ) → rest ≡ sealed_batch b ++ behind → length behind < length rest
less_behind rest b behind is =
    let sum = length-append b (sum_line b ++ behind) in
    let lengths : length rest ≡ length (b ++ (sum_line b ++ behind)) = ap length (is ∙ append_assoc b (sum_line b) behind) in
    let line = length-append (sum_line b) behind in
    let some : 0 < length (sum_line b) = omega (arith, length-append (sum_of b) (10 ∷ [])) in
    omega (arith, sum, lengths, line, some)

-- ---- what is told where no more is taken in

pub unseals_ended : (text rest : List ℕ) (u : Unsealed) → Taken text rest u.records.items → IsEnd true rest → u.is_ended ≡ true
    → u.whole ≡ length text → Unseals text u
unseals_ended text rest u taken end ended whole = record {
  batches = taken.batches;
  rest = rest;
  begins = taken.begins;
  end = subst (λ (e : Bool). IsEnd e rest) (sym ended) end;
  records_are = taken.records_are;
  whole_is = whole ∙ ap length (taken.begins.text_is ∙ ap (λ (l : List ℕ). sealed_text taken.batches ++ l) end)
      ∙ ap (λ (e : Bool). length (closed_text e taken.batches)) (sym ended);
}

pub unseals_torn : (text rest : List ℕ) (u : Unsealed) → Taken text rest u.records.items → IsEnd false rest → u.is_ended ≡ false
    → u.whole ≡ length text - length rest → Unseals text u
unseals_torn text rest u taken end ended whole =
    let lengths : length text ≡ length (sealed_text taken.batches ++ rest) = ap length taken.begins.text_is in
    let sum = length-append (sealed_text taken.batches) rest in
    let closed : u.whole ≡ length (sealed_text taken.batches) = omega (arith, whole, lengths, sum) in
    record {
      batches = taken.batches;
      rest = rest;
      begins = taken.begins;
      end = subst (λ (e : Bool). IsEnd e rest) (sym ended) end;
      records_are = taken.records_are;
      whole_is = closed ∙ ap (λ (e : Bool). length (closed_text e taken.batches)) (sym ended);
    }

pub damaged_at : (text rest records : List ℕ) (line : ℕ) → Taken text rest records → IsDamaged rest
    → line ≡ 1 + lines_of (take (length text - length rest) text) → IsDamagedAt text line
damaged_at text rest records line taken damaged told =
    let lengths : length text ≡ length (sealed_text taken.batches ++ rest) = ap length taken.begins.text_is in
    let sum = length-append (sealed_text taken.batches) rest in
    let front : take (length text - length rest) text ≡ sealed_text taken.batches =
    ap (take (length text - length rest)) taken.begins.text_is
    ∙ take_at (sealed_text taken.batches) rest (length text - length rest) (omega (arith, lengths, sum)) in
    record {
      batches = taken.batches;
      rest = rest;
      begins = taken.begins;
      damaged = damaged;
      line_is = told ∙ ap (λ (l : List ℕ). 1 + lines_of l) front;
    }
