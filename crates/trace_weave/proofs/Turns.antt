-- What one turn does.
use Rattle.std.proofs.Common.{◌≡◌, ◌≢◌, ◌↔◌, ◌⊎◌, ℕ, zero, suc, ◌+◌, ◌<◌, ◌≤◌, List, [], ◌∷◌, ◌++◌, length, get_or, set, reverse, sym, ap, subst, ◌∙◌, ⊎_elim, arith, Some, None, Contains, get_or-set_same, get_or-set_other}
use Rattle.std.proofs.lemmas.List.{reverse-append}
use Rattle.std.proofs.lemmas.Option.{slice_get_within, slice_get_cases, none-some}
use Rattle.std.specs.List.{slice_get}
use native.Mathlib.Decide.{ℕ_discrete}
use mathlib.Core.Logic.{dite}
use Rattle.field_bounds.specs.declared.entry.Entry.{Entry}
use Rattle.field_bounds.specs.declared.entry.Statement.{Statement}
use Rattle.field_bounds.specs.Statements.{statement_of}
use Rattle.trace_weave.specs.Weave.{history_at, count_placed, next_of, IsPicked, Waits, WeavesLowest, SticksAt, NoneWeaves}
use Rattle.trace_weave.specs.Turn.{upcoming, HoldsBack, IsTurn, IsFirstLeft, IsWoven, left_of, IsReached, GoesOn}
use Rattle.statement_set.specs.Issued.{HasIssued}
use Rattle.statement_set.proofs.Sets.{issued_more}
use Rattle.trace_weave.proofs.Woven.{placed_here, placed_there, none_weaves, rule_grows}

pub starts : (hs : List (List Entry)) (counts : List ℕ) → ((s : ℕ) → get_or counts s 0 ≡ 0) → IsWoven hs counts []
starts hs counts none = record { picks = []; picked = tt; lowest = tt; counted = none }

-- a history's next entry, by counts and by picks
as_counted : (hs : List (List Entry)) (counts : List ℕ) (t : List Entry) (w : IsWoven hs counts t) (s : ℕ) (e : Entry)
    → next_of hs s w.picks ≡ Some e → upcoming hs counts s ≡ Some e
as_counted hs counts t w s e is = subst (λ (n : ℕ). slice_get (history_at hs s) n ≡ Some e) (sym (w.counted s)) is

as_picked : (hs : List (List Entry)) (counts : List ℕ) (t : List Entry) (w : IsWoven hs counts t) (s : ℕ) (e : Entry)
    → upcoming hs counts s ≡ Some e → next_of hs s w.picks ≡ Some e
as_picked hs counts t w s e is = subst (λ (n : ℕ). slice_get (history_at hs s) n ≡ Some e) (w.counted s) is

turns : (hs : List (List Entry)) (counts : List ℕ) (t : List Entry) (s : ℕ) (e : Entry) → s < length counts → IsTurn hs counts t s e
    → IsWoven hs counts t → IsWoven hs (set counts s (get_or counts s 0 + 1)) (e ∷ t)
turns hs counts t s e inside turn w = record {
  picks = s ∷ w.picks;
  picked = (as_picked hs counts t w s e turn.next, turn.may, w.picked);
  lowest = (λ j below f next. turn.lower j below f (as_counted hs counts t w j f next), w.lowest);
  counted = λ j.
      dite (ℕ_discrete s j)
      (λ (here : s ≡ j).
      let at : get_or counts j 0 ≡ count_placed j w.picks = w.counted j in
      let more : count_placed j (s ∷ w.picks) ≡ count_placed j w.picks + 1 = placed_here j s w.picks here in
      subst (λ (k : ℕ). get_or (set counts s (get_or counts s 0 + 1)) k 0 ≡ count_placed j (s ∷ w.picks)) here
      (get_or-set_same counts s (get_or counts s 0 + 1) 0 inside
      ∙ (ap (λ (k : ℕ). get_or counts k 0 + 1) here ∙ (ap (λ (n : ℕ). n + 1) at ∙ sym more))))
      (λ (other : s ≢ j).
      get_or-set_other counts s j (get_or counts s 0 + 1) 0 (λ (is : j ≡ s). other (sym is))
      ∙ (w.counted j ∙ sym (placed_there j s w.picks other)));
}

pub any_default : (counts : List ℕ) (s n : ℕ) → s < length counts → n ≡ get_or counts s n → n ≡ get_or counts s 0
any_default [] s n inside at = absurd (omega arith)
any_default (k ∷ counts) zero n inside at = at
any_default (k ∷ counts) (suc s) n inside at = any_default counts s n (omega arith) at

pub turns_at : (hs : List (List Entry)) (counts seen : List ℕ) (xs shown ys : List Entry) (s n : ℕ) (e : Entry) → length counts ≡ length hs
    → seen ≡ counts → shown ≡ xs → ys ≡ xs ++ e ∷ [] → n ≡ get_or counts s n
    → IsTurn hs seen (reverse shown) s e → IsWoven hs counts (reverse xs) → IsWoven hs (set counts s (n + 1)) (reverse ys)
turns_at hs counts seen xs shown ys s n e len same is grown found turned w =
    let turn : IsTurn hs counts (reverse xs) s e =
    subst (λ (l : List Entry). IsTurn hs counts (reverse l) s e) is
    (subst (λ (k : List ℕ). IsTurn hs k (reverse shown) s e) same turned) in
    let below : s < length hs = turn.inside in
    let inside : s < length counts = omega arith in
    let at : n ≡ get_or counts s 0 = any_default counts s n inside found in
    subst (λ (l : List Entry). IsWoven hs (set counts s (n + 1)) l)
    (sym (ap (λ (l : List Entry). reverse l) grown ∙ reverse-append xs (e ∷ [])))
    (subst (λ (k : ℕ). IsWoven hs (set counts s (k + 1)) (e ∷ reverse xs)) (sym at) (turns hs counts (reverse xs) s e inside turn w))

-- one entry less is left
left_smaller : (hs : List (List Entry)) (counts : List ℕ) (s : ℕ) → length counts ≡ length hs → s < length hs
    → get_or counts s 0 < length (history_at hs s) → left_of hs (set counts s (get_or counts s 0 + 1)) < left_of hs counts
left_smaller [] counts s len inside below = absurd (omega arith)
left_smaller (h ∷ hs) [] s len inside below = absurd (omega arith)
left_smaller (h ∷ hs) (n ∷ counts) zero len inside below = omega arith
left_smaller (h ∷ hs) (n ∷ counts) (suc s) len inside below =
    let fewer : left_of hs (set counts s (get_or counts s 0 + 1)) < left_of hs counts =
    left_smaller hs counts s (omega arith) (omega arith) below in omega arith

pub fewer_left : (hs : List (List Entry)) (counts seen : List ℕ) (t : List Entry) (s n : ℕ) (e : Entry) → length counts ≡ length hs
    → seen ≡ counts → n ≡ get_or counts s n → IsTurn hs seen t s e → left_of hs (set counts s (n + 1)) < left_of hs counts
fewer_left hs counts seen t s n e len same found turned =
    let turn : IsTurn hs counts t s e = subst (λ (k : List ℕ). IsTurn hs k t s e) same turned in
    let below : s < length hs = turn.inside in
    let inside : s < length counts = omega arith in
    let at : n ≡ get_or counts s 0 = any_default counts s n inside found in
    subst (λ (k : ℕ). left_of hs (set counts s (k + 1)) < left_of hs counts) (sym at)
    (left_smaller hs counts s len turn.inside (slice_get_within (history_at hs s) (get_or counts s 0) e turn.next))

placed_within : (hs : List (List Entry)) (ps : List ℕ) (t : List Entry) → IsPicked hs ps t → (s : ℕ)
    → count_placed s ps ≤ length (history_at hs s)
placed_within hs [] [] by s = omega arith
placed_within hs [] (e ∷ t) by s = absurd by
placed_within hs (p ∷ ps) [] by s = absurd by
placed_within hs (p ∷ ps) (e ∷ t) by s =
    dite (ℕ_discrete p s)
    (λ (here : p ≡ s).
    let below : count_placed s ps < length (history_at hs s) =
    slice_get_within (history_at hs s) (count_placed s ps) e (subst (λ (q : ℕ). next_of hs q ps ≡ Some e) here by.0) in
    let more : count_placed s (p ∷ ps) ≡ count_placed s ps + 1 = placed_here s p ps here in
    omega arith)
    (λ (other : p ≢ s).
    let same : count_placed s (p ∷ ps) ≡ count_placed s ps = placed_there s p ps other in
    let before : count_placed s ps ≤ length (history_at hs s) = placed_within hs ps t by.2 s in
    omega arith)

past_end : (h : List Entry) (n : ℕ) → slice_get h n ≡ None → length h ≤ n
past_end h n none =
    ⊎_elim
    (λ (is : (x : Entry) × (n < length h) × (slice_get h n ≡ Some x) × (get_or h n x ≡ x)). absurd (none-some is.0 (sym none ∙ is.2)))
    (λ (is : (length h ≤ n) × (slice_get h n ≡ None)). is.0)
    (slice_get_cases h n).1

pub ends_whole : (hs : List (List Entry)) (counts seen : List ℕ) (t : List Entry) → seen ≡ counts → ((s : ℕ) → upcoming hs seen s ≡ None)
    → IsWoven hs counts t → WeavesLowest hs t
ends_whole hs counts seen t same gone w =
    let none : (s : ℕ) → upcoming hs counts s ≡ None = subst (λ (k : List ℕ). (s : ℕ) → upcoming hs k s ≡ None) same gone in record {
      picks = w.picks;
      picked = w.picked;
      whole = λ s.
          (let at : get_or counts s 0 ≡ count_placed s w.picks = w.counted s in
          let most : count_placed s w.picks ≤ length (history_at hs s) = placed_within hs w.picks t w.picked s in
          let least : length (history_at hs s) ≤ get_or counts s 0 = past_end (history_at hs s) (get_or counts s 0) (none s) in
          omega arith);
      lowest = w.lowest;
    }

pub ends_stuck : (hs : List (List Entry)) (counts seen again : List ℕ) (xs shown : List Entry) (s n : ℕ) → length counts ≡ length hs
    → seen ≡ counts → again ≡ counts → shown ≡ xs → n ≡ get_or counts s n
    → IsFirstLeft hs again s → ((j : ℕ) → HoldsBack hs seen (reverse shown) j) → IsWoven hs counts (reverse xs) → NoneWeaves hs
    × SticksAt hs s (n + 1)
ends_stuck hs counts seen again xs shown s n len same too is found first held w =
    let t : List Entry = reverse xs in
    let left : IsFirstLeft hs counts s = subst (λ (k : List ℕ). IsFirstLeft hs k s) too first in
    let holds : (j : ℕ) → HoldsBack hs counts t j =
    subst (λ (l : List Entry). (j : ℕ) → HoldsBack hs counts (reverse l) j) is
    (subst (λ (k : List ℕ). (j : ℕ) → HoldsBack hs k (reverse shown) j) same held) in
    let below : s < length hs = left.inside in
    let inside : s < length counts = omega arith in
    let at : n ≡ get_or counts s 0 = any_default counts s n inside found in
    let waits : (j : ℕ) → Waits hs w.picks t j = λ j f next. holds j f (as_counted hs counts t w j f next) in
    let next : next_of hs s w.picks ≡ Some left.entry = as_picked hs counts t w s left.entry left.next in (
      none_weaves hs w.picks t w.picked waits s left.entry next,
      record {
        picks = w.picks;
        trace = t;
        picked = w.picked;
        lowest = w.lowest;
        waits = waits;
        entry = left.entry;
        left = next;
        number = ap (λ (k : ℕ). k + 1) (at ∙ w.counted s);
        first = λ j below. subst (λ (k : ℕ). slice_get (history_at hs j) k ≡ None) (w.counted j) (left.lower j below);
      },
    )

-- ---- what is known after a turn

no_place : (st : Statement) → ¬ Contains [] st
no_place st has = absurd (omega arith)

nothing_told : (told : List Statement) → told ≡ [] → HasIssued told []
nothing_told told none st = (λ has. absurd (no_place st (subst (λ (l : List Statement). Contains l st) none has)), λ is. absurd is)

pub begins : (hs : List (List Entry)) (counts : List ℕ) (told : List Statement) → told ≡ [] → IsReached hs counts told [] 0
begins hs counts told none = record { knows = nothing_told told none; below = λ j under. absurd (omega arith) }

-- a history that held back still does, behind an entry of another that issues nothing
holds_still : (hs : List (List Entry)) (counts : List ℕ) (t : List Entry) (s j n : ℕ) (e : Entry) → statement_of e ≡ None → j < s
    → HoldsBack hs counts t j → HoldsBack hs (set counts s n) (e ∷ t) j
holds_still hs counts t s j n e silent under held f next may =
    held f (subst (λ (k : ℕ). slice_get (history_at hs j) k ≡ Some f)
    (get_or-set_other counts s j n 0 (λ (is : j ≡ s). absurd (omega arith))) next)
    (rule_grows t (e ∷ t) f.command f.reply (λ st is. ⊎_elim (λ now. absurd (none-some st (sym silent ∙ now))) (λ before. before) is) may)

pub reaches : (hs : List (List Entry)) (counts seen : List ℕ) (told more : List Statement) (xs ys : List Entry) (s n from : ℕ) (e : Entry)
    → seen ≡ counts → ys ≡ xs ++ e ∷ []
    → IsTurn hs seen (reverse xs) s e → HasIssued told (reverse xs)
    → ((st : Statement) → Contains more st ↔ ((statement_of e ≡ Some st) ⊎ Contains told st)) → GoesOn e s from
    → IsReached hs (set counts s n) more (reverse ys) from
reaches hs counts seen told more xs ys s n from e same grown turned knows added goes =
    let turn : IsTurn hs counts (reverse xs) s e = subst (λ (k : List ℕ). IsTurn hs k (reverse xs) s e) same turned in
    subst (λ (l : List Entry). IsReached hs (set counts s n) more l from)
    (sym (ap (λ (l : List Entry). reverse l) grown ∙ reverse-append xs (e ∷ [])))
    (record {
      knows = issued_more told more (reverse xs) e knows added;
      below = λ j under.
          ⊎_elim (λ (none : from ≡ 0). absurd (omega arith))
          (λ (on : (from ≡ s) × (statement_of e ≡ None)).
          holds_still hs counts (reverse xs) s j n e on.1 (subst (λ (k : ℕ). j < k) on.0 under)
          (turn.lower j (subst (λ (k : ℕ). j < k) on.0 under)))
          goes;
    })

pub seen_reached : (hs : List (List Entry)) (counts seen : List ℕ) (told : List Statement) (t : List Entry) (from : ℕ) → seen ≡ counts
    → IsReached hs counts told t from → IsReached hs seen told t from
seen_reached hs counts seen told t from same reached = subst (λ (k : List ℕ). IsReached hs k told t from) (sym same) reached
