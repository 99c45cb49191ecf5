-- What a text of closed batches is without its sum lines (this project).
use Rattle.std.proofs.Common.{append_assoc, ◌≡◌, ◌≢◌, ◌+◌, ℕ, zero, suc, Bool, true, false, List, [], ◌∷◌, ◌++◌, length, take, All, refl, sym, ap, ◌∙◌, arith}
use Rattle.std.specs.List.{concat}
use Rattle.std.proofs.lemmas.Bool.{ne_eqb}
use Rattle.std.proofs.lemmas.List.{append-nil, length-append, take_at}
use Rattle.std.proofs.lemmas.List.Elements.{All-head, All-tail, All-push}
use Rattle.sealed_text.specs.Seals.{sum_of, sum_line, sealed_batch, sealed_text, closed_text, end_batch, IsBatch, IsRecords}
use Rattle.sealed_text.specs.Rests.{IsClear}
use Rattle.sealed_text.proofs.Cuts.{batch_clear, length-sum_line}
use Rattle.sealed_log.specs.Sealed.{leaving_out, IsClosed}

-- a byte that begins no sum line stays
leaving_out-other : (b : ℕ) (x : List ℕ) → b ≢ 115 → leaving_out 0 (b ∷ x) ≡ b ∷ leaving_out 0 x
leaving_out-other b x other = rw (ne_eqb b 115 other) refl

-- bytes that begin no sum line stay
leaving_out-clear : (a x : List ℕ) → IsClear a → leaving_out 0 (a ++ x) ≡ a ++ leaving_out 0 x
leaving_out-clear [] x clear = refl
leaving_out-clear (b ∷ a) x clear =
    leaving_out-other b (a ++ x) (All-head (λ b. b ≢ 115) b a clear)
    ∙ ap (λ (l : List ℕ). b ∷ l) (leaving_out-clear a x (All-tail (λ b. b ≢ 115) b a clear))

-- so many bytes are left out
leaving_out-count : (n : ℕ) (a x : List ℕ) → length a ≡ n → leaving_out n (a ++ x) ≡ leaving_out 0 x
leaving_out-count zero [] x is = refl
leaving_out-count (suc n) [] x is = absurd (omega (arith, is))
leaving_out-count zero (b ∷ a) x is = absurd (omega (arith, is))
leaving_out-count (suc n) (b ∷ a) x is = leaving_out-count n a x (omega (arith, is))

-- a line that closes a batch is left out
leaving_out-sum : (batch x : List ℕ) → leaving_out 0 (sum_line batch ++ x) ≡ leaving_out 0 x
leaving_out-sum batch x = leaving_out-count 20 (117 ∷ 109 ∷ 32 ∷ (sum_of batch ++ 10 ∷ [])) x (omega (arith, length-sum_line batch))

-- of a closed batch the batch stays
pub leaving_out-batch : (batch x : List ℕ) → IsBatch batch → leaving_out 0 (sealed_batch batch ++ x) ≡ batch ++ leaving_out 0 x
leaving_out-batch batch x is =
    ap (leaving_out 0) (append_assoc batch (sum_line batch) x)
    ∙ leaving_out-clear batch (sum_line batch ++ x) (batch_clear batch is)
    ∙ ap (λ (l : List ℕ). batch ++ l) (leaving_out-sum batch x)

-- of closed batches the batches stay
pub leaving_out-text : (batches : List (List ℕ)) (x : List ℕ) → All IsRecords batches
    → leaving_out 0 (sealed_text batches ++ x) ≡ concat batches ++ leaving_out 0 x
leaving_out-text [] x all = refl
leaving_out-text (b ∷ batches) x all =
    ap (leaving_out 0) (append_assoc (sealed_batch b) (sealed_text batches) x)
    ∙ leaving_out-batch b (sealed_text batches ++ x) (All-head IsRecords b batches all).batch
    ∙ ap (λ (l : List ℕ). b ++ l) (leaving_out-text batches x (All-tail IsRecords b batches all))
    ∙ sym (append_assoc b (concat batches) (leaving_out 0 x))

-- the text of closed batches begins with that of the batches
closed-begins : (is_ended : Bool) (batches : List (List ℕ)) → (x : List ℕ) × (closed_text is_ended batches ≡ sealed_text batches ++ x)
closed-begins true batches = (sealed_batch end_batch, refl)
closed-begins false batches = ([], sym (append-nil (sealed_text batches)))

-- the records of a text of closed batches are theirs
pub records-of : (closed : ℕ) (is_ended : Bool) (batches : List (List ℕ)) → All IsRecords batches → closed ≡ length (concat batches)
    → take closed (leaving_out 0 (closed_text is_ended batches)) ≡ concat batches
records-of closed is_ended batches all closed_is =
    let begins = closed-begins is_ended batches in
    let whole : leaving_out 0 (closed_text is_ended batches) ≡ concat batches ++ leaving_out 0 begins.0 =
    ap (leaving_out 0) begins.1 ∙ leaving_out-text batches begins.0 all in
    ap (take closed) whole ∙ take_at (concat batches) (leaving_out 0 begins.0) closed (sym closed_is)

pub closed-records : (closed : ℕ) (is_ended : Bool) (text : List ℕ) (is : IsClosed closed is_ended text)
    → take closed (leaving_out 0 text) ≡ concat is.batches
closed-records closed is_ended text is =
    ap (λ (l : List ℕ). take closed (leaving_out 0 l)) is.text_is ∙ records-of closed is_ended is.batches is.records is.closed_is

pub sealed_text-push : (batches : List (List ℕ)) (b : List ℕ) → sealed_text (batches ++ b ∷ []) ≡ sealed_text batches ++ sealed_batch b
sealed_text-push [] b = append-nil (sealed_batch b)
sealed_text-push (c ∷ batches) b =
    ap (λ (l : List ℕ). sealed_batch c ++ l) (sealed_text-push batches b)
    ∙ sym (append_assoc (sealed_batch c) (sealed_text batches) (sealed_batch b))

pub concat-push : (batches : List (List ℕ)) (b : List ℕ) → concat (batches ++ b ∷ []) ≡ concat batches ++ b
concat-push [] b = append-nil b
concat-push (c ∷ batches) b = ap (λ (l : List ℕ). c ++ l) (concat-push batches b) ∙ sym (append_assoc c (concat batches) b)

-- one more batch is closed
abbrev pub closed-push : (closed : ℕ) (text b : List ℕ) → IsClosed closed false text → IsRecords b
    → IsClosed (closed + length b) false (text ++ sealed_batch b)
closed-push closed text b is one = record {
  batches = is.batches ++ b ∷ [];
  records = All-push IsRecords is.batches b is.records one;
  text_is = ap (λ (l : List ℕ). l ++ sealed_batch b) is.text_is ∙ sym (sealed_text-push is.batches b);
  closed_is = ap (λ (n : ℕ). n + length b) is.closed_is ∙ sym (length-append (concat is.batches) b)
      ∙ sym (ap length (concat-push is.batches b));
}

-- the world is ended
abbrev pub closed-end : (closed : ℕ) (text : List ℕ) → IsClosed closed false text → IsClosed closed true (text ++ sealed_batch end_batch)
closed-end closed text is = record {
  batches = is.batches;
  records = is.records;
  text_is = ap (λ (l : List ℕ). l ++ sealed_batch end_batch) is.text_is;
  closed_is = is.closed_is;
}
