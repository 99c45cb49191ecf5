-- What texts of closed batches tell, and what a stop leaves of them.
use Rattle.std.proofs.Common.{append_assoc, ◌≡◌, ◌≢◌, inl, inr, ℕ, suc, ◌+◌, ◌-◌, ◌<◌, Bool, true, false, List, [], ◌∷◌, ◌++◌, length, take, drop, All, refl, sym, ap, subst, ◌∙◌, zero-add, arith}
use Rattle.std.proofs.lemmas.Bool.{cases_lt}
use Rattle.std.proofs.lemmas.List.{append_cancel_left, length-append, length-drop, take-append-drop, take-append-le}
use Rattle.std.proofs.lemmas.List.Elements.{All-head, All-tail}
use Rattle.sealed_text.specs.Seals.{sum_line, sealed_batch, sealed_text, closed_text, end_batch, IsBatch, IsRecords, IsTorn, IsEnd, LeavesFront}
use Rattle.sealed_text.proofs.Cuts.{end_is_batch, end_closed, batch_clear, line_begins, closed_cut, closed_not_torn, torn_from, torn_more, torn_some}

-- ---- one list

-- two closed batches at the front of the same bytes are one
same_first : (b c x y : List ℕ) → IsBatch b → IsBatch c → sealed_batch b ++ x ≡ sealed_batch c ++ y → (b ≡ c) × (x ≡ y)
same_first b c x y batch other is =
    let cut = closed_cut b (sum_line b ++ x) c y (batch_clear b batch) (line_begins b x) other (sym (append_assoc b (sum_line b) x) ∙ is) in
    (cut.front, append_cancel_left (sum_line b) x y cut.behind)

-- what may stand behind closed batches begins with none
no_end_begins : (d : Bool) (r b x : List ℕ) → IsEnd d r → IsRecords b → r ≡ sealed_batch b ++ x → ⊥
no_end_begins true r b x end records is =
    records.other (same_first b end_batch x [] records.batch end_is_batch (sym is ∙ end_closed r end)).0
no_end_begins false r b x torn records is =
    closed_not_torn b x records.batch (subst IsTorn (is ∙ append_assoc b (sum_line b) x) torn)

more_behind : (b : List ℕ) (bs : List (List ℕ)) (r : List ℕ) → sealed_text (b ∷ bs) ++ r ≡ sealed_batch b ++ (sealed_text bs ++ r)
more_behind b bs r = append_assoc (sealed_batch b) (sealed_text bs) r

pub one_list : (bs cs : List (List ℕ)) (r s : List ℕ) (d e : Bool) → All IsRecords bs → All IsRecords cs → IsEnd d r → IsEnd e s
    → sealed_text bs ++ r ≡ sealed_text cs ++ s → (bs ≡ cs) × (r ≡ s)
one_list [] [] r s d e all every end other is = (refl, is)
one_list [] (c ∷ cs) r s d e all every end other is =
    absurd (no_end_begins d r c (sealed_text cs ++ s) end (All-head IsRecords c cs every) (is ∙ more_behind c cs s))
one_list (b ∷ bs) [] r s d e all every end other is =
    absurd (no_end_begins e s b (sealed_text bs ++ r) other (All-head IsRecords b bs all) (sym is ∙ more_behind b bs r))
one_list (b ∷ bs) (c ∷ cs) r s d e all every end other is =
    let first = same_first b c (sealed_text bs ++ r) (sealed_text cs ++ s) (All-head IsRecords b bs all).batch
    (All-head IsRecords c cs every).batch
    (sym (more_behind b bs r) ∙ is ∙ more_behind c cs s) in
    let rest = one_list bs cs r s d e (All-tail IsRecords b bs all) (All-tail IsRecords c cs every) end other first.1 in
    (ap (λ (l : List ℕ). l ∷ bs) first.0 ∙ ap (λ (l : List (List ℕ)). c ∷ l) rest.0, rest.1)

-- the end of a world is left by no stop
pub end_not_torn : (rest : List ℕ) → IsEnd true rest → IsEnd false rest → ⊥
end_not_torn rest end torn =
    closed_not_torn end_batch [] end_is_batch (subst IsTorn (end_closed rest end ∙ append_assoc end_batch (sum_line end_batch) []) torn)

-- ---- stops

none_behind : (a b : List ℕ) → b ≢ [] → a ++ b ≢ []
none_behind [] b some is = some is
none_behind (x ∷ a) b some is = absurd cc

-- a front of what a stop leaves is what a stop leaves
pub torn_front : (rest : List ℕ) (j : ℕ) → IsTorn rest → IsTorn (take j rest)
torn_front rest j torn =
    let more = drop (length rest) (sealed_batch torn.batch) in
    torn_from (take j rest) (drop j rest ++ more) torn.batch torn.is_batch
    (sym (append_assoc (take j rest) (drop j rest) more) ∙ ap (λ (l : List ℕ). l ++ more) (take-append-drop j rest) ∙ torn_more rest torn)
    (none_behind (drop j rest) more (torn_some rest torn))

some_left : (l : List ℕ) (k : ℕ) → k < length l → drop k l ≢ []
some_left l k less none =
    let nothing : length (drop k l) ≡ 0 = ap length none in
    absurd (omega (arith, less, nothing, length-drop k l))

-- so is a proper front of a closed batch
pub batch_front : (b : List ℕ) (k : ℕ) → IsBatch b → k < length (sealed_batch b) → IsTorn (take k (sealed_batch b))
batch_front b k batch less =
    torn_from (take k (sealed_batch b)) (drop k (sealed_batch b)) b batch (take-append-drop k (sealed_batch b))
    (some_left (sealed_batch b) k less)

-- a front of a text that goes on behind a batch
take-behind : (b x : List ℕ) (j : ℕ) → take (length b + j) (b ++ x) ≡ b ++ take j x
take-behind [] x j = rw zero-add refl
take-behind (c ∷ b) x j =
    let n : length (c ∷ b) + j ≡ suc (length b + j) = omega arith in
    rw n (ap (λ (l : List ℕ). c ∷ l) (take-behind b x j))

stops_first : (b : List ℕ) (bs : List (List ℕ)) (rest : List ℕ) (k : ℕ) → IsBatch b → k < length (sealed_batch b)
    → LeavesFront (b ∷ bs) (take k (sealed_text (b ∷ bs) ++ rest))
stops_first b bs rest k batch less = record {
  count = 0;
  torn = take k (sealed_batch b);
  text_is = ap (take k) (more_behind b bs rest) ∙ take-append-le k (sealed_batch b) (sealed_text bs ++ rest) (omega (arith, less));
  is_torn = batch_front b k batch less;
}

stops_later : (b : List ℕ) (bs : List (List ℕ)) (rest : List ℕ) (k j : ℕ) → k ≡ length (sealed_batch b) + j
    → LeavesFront bs (take j (sealed_text bs ++ rest)) → LeavesFront (b ∷ bs) (take k (sealed_text (b ∷ bs) ++ rest))
stops_later b bs rest k j at left = record {
  count = suc left.count;
  torn = left.torn;
  text_is = ap (take k) (more_behind b bs rest) ∙ ap (λ (n : ℕ). take n (sealed_batch b ++ (sealed_text bs ++ rest))) at
      ∙ take-behind (sealed_batch b) (sealed_text bs ++ rest) j ∙ ap (λ (l : List ℕ). sealed_batch b ++ l) left.text_is
      ∙ sym (append_assoc (sealed_batch b) (sealed_text (take left.count bs)) left.torn);
  is_torn = left.is_torn;
}

-- a front of a text, where each front that reaches into the rest is what a stop leaves there
pub stops : (batches : List (List ℕ)) (rest : List ℕ) (k : ℕ) → All IsRecords batches
    → ((j : ℕ) → k ≡ length (sealed_text batches) + j → IsTorn (take j rest)) → LeavesFront batches (take k (sealed_text batches ++ rest))
stops [] rest k all torn = record { count = 0; torn = take k rest; text_is = refl; is_torn = torn k (sym (zero-add k)) }
stops (b ∷ bs) rest k all torn =
    elim (cases_lt k (length (sealed_batch b))) [
      | inl less ↦ stops_first b bs rest k (All-head IsRecords b bs all).batch less
      | inr past ↦ stops_later b bs rest k (k - length (sealed_batch b)) (omega (arith, past))
          (stops bs rest (k - length (sealed_batch b)) (All-tail IsRecords b bs all)
          (λ j at. torn j (omega (arith, past, at, length-append (sealed_batch b) (sealed_text bs)))))
    ]

pub torn_stops : (batches : List (List ℕ)) (rest : List ℕ) (k : ℕ) → All IsRecords batches → IsTorn rest
    → LeavesFront batches (take k (sealed_text batches ++ rest))
torn_stops batches rest k all torn = stops batches rest k all (λ j at. torn_front rest j torn)

pub ended_stops : (batches : List (List ℕ)) (k : ℕ) → All IsRecords batches → k < length (closed_text true batches)
    → LeavesFront batches (take k (closed_text true batches))
ended_stops batches k all less =
    stops batches (sealed_batch end_batch) k all
    (λ j at. batch_front end_batch j end_is_batch (omega (arith, less, at, length-append (sealed_text batches) (sealed_batch end_batch))))
