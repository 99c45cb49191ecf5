-- Answers one after the other, and the parts of a line.
use Rattle.std.proofs.Common.{◌≡◌, ◌≢◌, ◌⊎◌, ◌<◌, ◌-◌, ◌+◌, ℕ, min, cond, Result, Ok, Err, OnOk, is_ok, List, [], ◌∷◌, ◌++◌, length, take, refl, sym, ap, ◌∙◌, subst, inl, inr, append_assoc, append-nil, arith}
use Rattle.std.specs.List.{All}
use Rattle.std.proofs.lemmas.Bool.{cases_lt}
use Rattle.std.proofs.lemmas.List.{length-append, length-take-le, take_all}
use Rattle.entry_text.specs.Lines.{max_line}
use Rattle.script_input.specs.Lines.{whole_lines_after, last_part_after}
use Rattle.script_input.proofs.LineLemmas.{whole_lines_after-append, last_part_after-append, whole_lines_after-unbroken, last_part_after-unbroken}
use Rattle.site_service.specs.Answers.{Served, AnswersLine, AnswersLines}
use Rattle.site_service.specs.Service.{ServiceValue, KeepsLog, HasAnswered, HasAnsweredAll}
use Rattle.line_serving.specs.Serving.{IsKeptOf}

-- ---- answers

pub answers_after : (old mid new : Served) (xs ys : List (List ℕ)) (text more : List ℕ) → AnswersLines old xs mid text
    → AnswersLines mid ys new more → AnswersLines old (xs ++ ys) new (text ++ more)
answers_after old mid new [] ys text more first second =
    subst (λ (t : List ℕ). AnswersLines old ys new (t ++ more)) (sym first.1) (subst (λ (s : Served). AnswersLines s ys new more) first.0 second)
answers_after old mid new (x ∷ xs) ys text more first second = (
  first.0,
  first.1,
  first.2 ++ more,
  first.3,
  answers_after first.0 mid new xs ys first.2 more first.4 second,
  ap (λ (t : List ℕ). t ++ more) first.5 ∙ append_assoc first.1 first.2 more,
)

answers_one : (old new : Served) (line text : List ℕ) → AnswersLine old line new text → AnswersLines old (line ∷ []) new text
answers_one old new line text one = (new, text, [], one, (refl, refl), sym (append-nil text))

pub answered_none : (v : ServiceValue) → HasAnsweredAll [] v v
answered_none v = record { text = []; answers = (refl, refl); added = sym (append-nil v.waiting) }

pub answered_more : (old mid new : ServiceValue) (lines : List (List ℕ)) (line : List ℕ) → HasAnsweredAll lines old mid
    → HasAnswered line mid new → HasAnsweredAll (lines ++ line ∷ []) old new
answered_more old mid new lines line all one = record {
  text = all.text ++ one.text;
  answers = answers_after old.served mid.served new.served lines (line ∷ []) all.text one.text all.answers
      (answers_one mid.served new.served line one.text one.answer);
  added = one.added ∙ ap (λ (t : List ℕ). t ++ one.text) all.added ∙ append_assoc old.waiting all.text one.text;
}

pub keeps_same : (v : ServiceValue) → KeepsLog v v
keeps_same v = record { log = refl; safe = refl; least = refl; settled = refl; lost = refl }

pub keeps_on : (old mid new : ServiceValue) → KeepsLog old mid → KeepsLog mid new → KeepsLog old new
keeps_on old mid new first second = record {
  log = second.log ∙ first.log;
  safe = second.safe ∙ first.safe;
  least = second.least ∙ first.least;
  settled = second.settled ∙ first.settled;
  lost = second.lost ∙ first.lost;
}

-- ---- what is kept of a part of a line

pub keep_all : (part kept bytes new : List ℕ) → new ≡ kept ++ bytes → IsKeptOf part kept → IsKeptOf (part ++ bytes) new
keep_all part kept bytes new is (inl same) = inl (is ∙ ap (λ (l : List ℕ). l ++ bytes) same)
keep_all part kept bytes new is (inr long) =
    inr (omega (arith, ap length is, length-append kept bytes, long.0), omega (arith, length-append part bytes, long.1))

kept_length : (part kept : List ℕ) → IsKeptOf part kept → (length kept ≡ length part) ⊎ ((256 < length kept) × (256 < length part))
kept_length part kept (inl same) = inl (ap length same)
kept_length part kept (inr long) = inr long

pub keep_front : (part kept bytes new : List ℕ) (room : ℕ) → new ≡ kept ++ take room bytes → room ≡ 257 - length kept
    → room < length bytes → IsKeptOf part kept → IsKeptOf (part ++ bytes) new
keep_front part kept bytes new room is left more keeps =
    let size : length new ≡ length kept + room =
    ap length is ∙ length-append kept (take room bytes) ∙ ap (λ n. length kept + n) (length-take-le room bytes (omega (arith, more))) in
    elim (kept_length part kept keeps) [
      | inl same ↦ inr (omega (arith, size, left, same), omega (arith, length-append part bytes, left, more, same))
      | inr long ↦ inr (omega (arith, size, long.0), omega (arith, length-append part bytes, long.1))
    ]

-- nothing is kept of a line of which there is nothing
pub kept_nothing : (part : List ℕ) → IsKeptOf part [] → [] ≡ part
kept_nothing part (inl same) = same
kept_nothing part (inr long) = absurd (omega (arith, long.0))

-- ---- the lines of a piece

-- So much of a piece is done: its lines are answered, and what stands behind them is kept.
pub record HasDone (part piece rest kept : List ℕ) (old new : ServiceValue) : Type 0 where
  pub done : List ℕ
  pub parts : piece ≡ done ++ rest
  pub keeps : IsKeptOf (last_part_after part done) kept
  pub answered : HasAnsweredAll (whole_lines_after part done) old new

pub done_none : (part piece kept : List ℕ) (v : ServiceValue) → IsKeptOf part kept → HasDone part piece piece kept v v
done_none part piece kept v keeps = record { done = []; parts = refl; keeps = keeps; answered = answered_none v }

-- one line more
pub done_more : (part piece rest kept left line behind : List ℕ) (old mid new : ServiceValue) (has : HasDone part piece rest kept old mid)
    → rest ≡ line ++ 10 ∷ behind → All (λ b. b ≢ 10) line → left ≡ []
    → HasAnswered (last_part_after part has.done ++ line) mid new → HasDone part piece behind left old new
done_more part piece rest kept left line behind old mid new has broken unbroken none one =
    let front = last_part_after part has.done in
    let whole : whole_lines_after front (line ++ 10 ∷ []) ≡ (front ++ line) ∷ [] =
    whole_lines_after-append front line (10 ∷ [])
    ∙ ap (λ (ls : List (List ℕ)). ls ++ last_part_after front line ∷ []) (whole_lines_after-unbroken front line unbroken)
    ∙ ap (λ (l : List ℕ). l ∷ []) (last_part_after-unbroken front line unbroken) in
    let lines : whole_lines_after part (has.done ++ (line ++ 10 ∷ [])) ≡ whole_lines_after part has.done ++ (front ++ line) ∷ [] =
    whole_lines_after-append part has.done (line ++ 10 ∷ []) ∙ ap (λ (ls : List (List ℕ)). whole_lines_after part has.done ++ ls) whole in
    let last : last_part_after part (has.done ++ (line ++ 10 ∷ [])) ≡ [] =
    last_part_after-append part has.done (line ++ 10 ∷ []) ∙ last_part_after-append front line (10 ∷ []) in
    record {
      done = has.done ++ (line ++ 10 ∷ []);
      parts = has.parts ∙ ap (λ (l : List ℕ). has.done ++ l) (broken ∙ sym (append_assoc line (10 ∷ []) behind))
          ∙ sym (append_assoc has.done (line ++ 10 ∷ []) behind);
      keeps = inl (none ∙ sym last);
      answered = subst (λ (ls : List (List ℕ)). HasAnsweredAll ls old new) (sym lines)
          (answered_more old mid new (whole_lines_after part has.done) (front ++ line) has.answered one);
    }

-- the rest has no line
pub done_all : (part piece rest kept left : List ℕ) (old new : ServiceValue) (has : HasDone part piece rest kept old new)
    → All (λ b. b ≢ 10) rest → IsKeptOf (last_part_after part has.done ++ rest) left
    → IsKeptOf (last_part_after part piece) left × HasAnsweredAll (whole_lines_after part piece) old new
done_all part piece rest kept left old new has unbroken keeps =
    let last : last_part_after part piece ≡ last_part_after part has.done ++ rest =
    ap (last_part_after part) has.parts ∙ last_part_after-append part has.done rest
    ∙ last_part_after-unbroken (last_part_after part has.done) rest unbroken in
    let lines : whole_lines_after part piece ≡ whole_lines_after part has.done =
    ap (whole_lines_after part) has.parts ∙ whole_lines_after-append part has.done rest
    ∙ ap (λ (ls : List (List ℕ)). whole_lines_after part has.done ++ ls)
    (whole_lines_after-unbroken (last_part_after part has.done) rest unbroken)
    ∙ append-nil (whole_lines_after part has.done) in (
      subst (λ (p : List ℕ). IsKeptOf p left) (sym last) keeps,
      subst (λ (ls : List (List ℕ)). HasAnsweredAll ls old new) (sym lines) has.answered,
    )

-- the answer to what was kept of a line is that to the line
pub answer_kept : (whole kept : List ℕ) (old new : ServiceValue) → IsKeptOf whole kept → HasAnswered kept old new
    → ((other : List ℕ) → max_line < length kept → max_line < length other → HasAnswered other old new) → HasAnswered whole old new
answer_kept whole kept old new (inl same) plain long = subst (λ (l : List ℕ). HasAnswered l old new) same plain
answer_kept whole kept old new (inr more) plain long = long whole more.0 more.1

pub answer_fresh : (part end : List ℕ) (old new : ServiceValue) → IsKeptOf part [] → HasAnswered end old new
    → HasAnswered (part ++ end) old new
answer_fresh part end old new keeps one = subst (λ (p : List ℕ). HasAnswered (p ++ end) old new) (kept_nothing part keeps) one

-- a vector that was to grow
pub grew : {T E : Type 0} (r : Result T E) (old more new : List ℕ) → new ≡ cond (is_ok r) (old ++ more) old → OnOk r (new ≡ old ++ more)
grew (Ok x) old more new is = is
grew (Err e) old more new is = tt

-- at most so much is added that it tells that the line is too long
pub keep_part : (part kept bytes new : List ℕ) (count room : ℕ) → count ≡ min (length bytes) room → room ≡ 257 - length kept
    → new ≡ kept ++ take count bytes → IsKeptOf part kept → IsKeptOf (part ++ bytes) new
keep_part part kept bytes new count room least left is keeps = elim (cases_lt count (length bytes)) [
  | inl less ↦ keep_front part kept bytes new count is (omega (arith, least, left, less)) less keeps
  | inr all ↦ keep_all part kept bytes new (is ∙ ap (λ (l : List ℕ). kept ++ l) (take_all count bytes all)) keeps
]
