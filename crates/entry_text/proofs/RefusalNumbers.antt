-- Refusals by their numbers: each row of their table stands beside a number.
use Rattle.std.proofs.Common.{◌≡◌, ℕ, ◌^◌, ◌<◌, ◌≤◌, Bool, true, false, List, [], ◌∷◌, Option, Some, None, refl, sym, ap, ◌∙◌, arith, inl, inr}
use Rattle.std.specs.Prelude.{◌⊎◌, bytes_eq}
use Rattle.std.specs.List.{AllByRecursion}
use Rattle.std.specs.Fmt.{decimal, digits}
use Rattle.std.proofs.lemmas.Bool.{cond-false}
use Rattle.std.proofs.lemmas.Option.{same_Some, some_pair_parts}
use Rattle.std.proofs.lemmas.Slice.Eq.{bytes_eq-Decides}
use Rattle.field_bounds.specs.declared.entry.Refusal.{Refusal}
use Rattle.line_words.specs.Reading.{◌>>=◌, number_of, word_at}
use Rattle.line_words.proofs.Numbers.{bind_some, number_takes, number_again}
use Rattle.entry_text.specs.Reading.{Reader, read_beside, table_at}
use Rattle.entry_text.specs.Replies.{refusal_table, refusal_at}
use Rattle.entry_text.proofs.Tables.{◌&◌}

-- the word is that of a number from 1 to 15
record IsNumbered (w : List ℕ) : Type 0 where
  number : ℕ
  from_one : 1 ≤ number
  few : number ≤ 15
  spelled : w ≡ decimal number

abbrev AreNumbered : List (List ℕ × Reader Refusal) → Type 0
AreNumbered table = AllByRecursion (λ e. IsNumbered e.0) table

refusals_numbered : AreNumbered refusal_table
unfolding digits
refusals_numbered =
    record { number = 1; from_one = omega arith; few = omega arith; spelled = refl }
    & record { number = 2; from_one = omega arith; few = omega arith; spelled = refl }
    & record { number = 3; from_one = omega arith; few = omega arith; spelled = refl }
    & record { number = 4; from_one = omega arith; few = omega arith; spelled = refl }
    & record { number = 5; from_one = omega arith; few = omega arith; spelled = refl }
    & record { number = 6; from_one = omega arith; few = omega arith; spelled = refl }
    & record { number = 7; from_one = omega arith; few = omega arith; spelled = refl }
    & record { number = 8; from_one = omega arith; few = omega arith; spelled = refl }
    & record { number = 9; from_one = omega arith; few = omega arith; spelled = refl }
    & record { number = 10; from_one = omega arith; few = omega arith; spelled = refl }
    & record { number = 11; from_one = omega arith; few = omega arith; spelled = refl }
    & record { number = 12; from_one = omega arith; few = omega arith; spelled = refl }
    & record { number = 13; from_one = omega arith; few = omega arith; spelled = refl }
    & record { number = 14; from_one = omega arith; few = omega arith; spelled = refl }
    & record { number = 15; from_one = omega arith; few = omega arith; spelled = refl }
    & tt

either : (b : Bool) → (b ≡ true) ⊎ (b ≡ false)
either true = inl refl
either false = inr refl

equal_or_not : (v w : List ℕ) → (bytes_eq v w ≡ true) ⊎ (bytes_eq v w ≡ false)
equal_or_not v w = either (bytes_eq v w)

-- what no row's word is reads nothing
absent : (table : List (List ℕ × Reader Refusal)) → AreNumbered table → (w : List ℕ)
    → ((n : ℕ) → 1 ≤ n → n ≤ 15 → w ≡ decimal n → ⊥) → (ws : List (List ℕ)) → read_beside table w ws ≡ None
absent [] are w never ws = refl
absent (e ∷ table) are w never ws =
    let row = are.0 in
    elim (equal_or_not w e.0) [
      | inl same ↦ absurd (never row.number row.from_one row.few ((bytes_eq-Decides w e.0).0 same ∙ row.spelled))
      | inr other ↦ cond-false (bytes_eq w e.0) _ _ other ∙ absent table are.1 w never ws
    ]

-- A number past those of the refusals reads nothing.
pub unnumbered : (n : ℕ) → n < 2 ^ 64 → (1 ≤ n → 15 < n) → (ws : List (List ℕ)) → read_beside refusal_table (decimal n) ws ≡ None
unnumbered n small past = absent refusal_table refusals_numbered (decimal n) (λ k from few e.
    let same : n ≡ k = same_Some n k
    (sym (number_again (2 ^ 64) n (omega arith) small) ∙ ap (number_of (2 ^ 64)) e ∙ number_again (2 ^ 64) k (omega arith) (omega arith)) in
    omega arith)

-- A word that is no number reads nothing.
no_number : (w : List ℕ) → number_of (2 ^ 64) w ≡ None → (ws : List (List ℕ)) → read_beside refusal_table w ws ≡ None
no_number w none = absent refusal_table refusals_numbered w (λ k from few e.
    let again : number_of (2 ^ 64) w ≡ Some k = ap (number_of (2 ^ 64)) e ∙ number_again (2 ^ 64) k (omega arith) (omega arith) in
    absurd cc)

abbrev kept : List (List ℕ) → ℕ → Option (ℕ × List (List ℕ))
kept ws n = Some (n, ws)

none_left : (o : Option ℕ) (ws : List (List ℕ)) → (o >>= kept ws) ≡ None → o ≡ None
none_left None ws e = refl
none_left (Some v) ws e = absurd cc

pub without_number : (ws : List (List ℕ)) → word_at (number_of (2 ^ 64)) ws ≡ None → refusal_at ws ≡ None
unfolding refusal_at table_at word_at
without_number [] e = refl
without_number (w ∷ ws) e = no_number w (none_left (number_of (2 ^ 64) w) ws e) ws

pub by_number : (ws : List (List ℕ)) (n : ℕ) (rest : List (List ℕ)) → word_at (number_of (2 ^ 64)) ws ≡ Some (n, rest)
    → refusal_at ws ≡ read_beside refusal_table (decimal n) rest
unfolding refusal_at table_at word_at
by_number [] n rest e = absurd cc
by_number (w ∷ ws) n rest e =
    let v = bind_some (number_of (2 ^ 64) w) (kept ws) (n, rest) e in
    let p = some_pair_parts v.0 n ws rest v.2 in
    let spelled : w ≡ decimal n = (number_takes (2 ^ 64) w v.0 v.1).1 ∙ ap decimal p.0 in
    ap (λ (u : List ℕ). read_beside refusal_table u ws) spelled ∙ ap (read_beside refusal_table (decimal n)) p.1
