-- What an order takes.
use Rattle.std.proofs.Common.{◌≡◌, ℕ, zero, suc, ◌+◌, ◌<◌, List, [], ◌∷◌, ◌++◌, length, map, reverse, get_or, set, refl, sym, ap, subst, ◌∙◌, arith, Option, Some, None, Contains, ◌↔◌, ◌⊎◌}
use Rattle.std.proofs.lemmas.List.{length-map}
use Rattle.std.proofs.Math.ListN.{replicate}
use Rattle.std.specs.Global.{Vec}
use Rattle.field_bounds.specs.declared.entry.Entry.{Entry}
use Rattle.trace_weave.specs.Weave.{lists_of}
use Rattle.field_bounds.specs.declared.entry.Statement.{Statement}
use Rattle.field_bounds.specs.Statements.{statement_of}
use Rattle.trace_weave.specs.Turn.{upcoming, IsTurn, IsReached, IsWoven, GoesOn}
use Rattle.trace_weave.proofs.Turns.{starts, begins, any_default, turns_at, reaches}
use Rattle.trace_weave.specs.Order.{taken_from, taken_by}

-- no entry was taken yet
abbrev pub none_taken : List (List Entry) → List ℕ
none_taken hs = map (λ (h : List Entry). 0) hs

-- each place of the order takes an entry, and then so many were taken of each history
abbrev pub IsTakenTo : List (List Entry) → List ℕ → List ℕ → List ℕ → Type 0
IsTakenTo hs counts [] after = counts ≡ after
IsTakenTo hs counts (s ∷ order) after =
    (e : Entry) × (upcoming hs counts s ≡ Some e) × IsTakenTo hs (set counts s (get_or counts s 0 + 1)) order after

-- the rest behind a place that takes an entry
taken_or : List (List Entry) → List ℕ → ℕ → List ℕ → Option Entry → List Entry
taken_or hs counts s order next =
    elim next [ None ↦ [] | Some e ↦ e ∷ taken_from hs (set counts s (get_or counts s 0 + 1)) order ]

pub takes_one : (hs : List (List Entry)) (counts : List ℕ) (s : ℕ) (order : List ℕ) (e : Entry) → upcoming hs counts s ≡ Some e
    → taken_from hs counts (s ∷ order) ≡ e ∷ taken_from hs (set counts s (get_or counts s 0 + 1)) order
unfolding taken_or
takes_one hs counts s order e is = ap (taken_or hs counts s order) is

-- each place takes one
pub taken_each : (hs : List (List Entry)) (counts order after : List ℕ) → IsTakenTo hs counts order after
    → length (taken_from hs counts order) ≡ length order
taken_each hs counts [] after is = refl
taken_each hs counts (s ∷ order) after (e, next, rest) =
    ap length (takes_one hs counts s order e next)
    ∙ ap suc (taken_each hs (set counts s (get_or counts s 0 + 1)) order after rest)

-- one place more
pub record IsTakenMore (hs : List (List Entry)) (counts order after : List ℕ) (s : ℕ) (e : Entry) : Type 0 where
  pub trace : taken_from hs counts (order ++ s ∷ []) ≡ taken_from hs counts order ++ e ∷ []
  pub to : IsTakenTo hs counts (order ++ s ∷ []) (set after s (get_or after s 0 + 1))

pub taken_more : (hs : List (List Entry)) (counts order after : List ℕ) (s : ℕ) (e : Entry) → IsTakenTo hs counts order after
    → upcoming hs after s ≡ Some e → IsTakenMore hs counts order after s e
taken_more hs counts [] after s e is next =
    let here : upcoming hs counts s ≡ Some e = subst (λ (k : List ℕ). upcoming hs k s ≡ Some e) (sym is) next in
    record {
      trace = takes_one hs counts s [] e here;
      to = (e, here, ap (λ (k : List ℕ). set k s (get_or k s 0 + 1)) is);
    }
taken_more hs counts (p ∷ order) after s e (f, first, rest) next =
    let counts' : List ℕ = set counts p (get_or counts p 0 + 1) in
    let more = taken_more hs counts' order after s e rest next in
    record {
      trace = takes_one hs counts p (order ++ s ∷ []) f first ∙ ap (λ (t : List Entry). f ∷ t) more.trace
          ∙ sym (ap (λ (t : List Entry). t ++ e ∷ []) (takes_one hs counts p order f first));
      to = (f, first, more.to);
    }

-- ---- the loop

-- This order places the entries by the lowest turns, and takes so many of each history.
pub record IsOrdered (hs : List (List Entry)) (counts order : List ℕ) (told : List Statement) (from : ℕ) : Type 0 where
  pub reached : IsReached hs counts told (reverse (taken_by hs order)) from
  pub woven : IsWoven hs counts (reverse (taken_by hs order))
  pub taken : IsTakenTo hs (none_taken hs) order counts

zeros : (hs : List (List Entry)) → replicate (length hs) 0 ≡ none_taken hs
zeros [] = refl
zeros (h ∷ hs) = ap (λ (l : List ℕ). 0 ∷ l) (zeros hs)

pub zeros_of : (vs : List (Vec Entry)) (counts : List ℕ) → counts ≡ replicate (length vs) 0 → none_taken (lists_of vs) ≡ counts
zeros_of vs counts is =
    sym (zeros (lists_of vs)) ∙ ap (λ (n : ℕ). replicate n 0) (length-map vs (λ (v : Vec Entry). v.items)) ∙ sym is

pub none_placed : (hs : List (List Entry)) (s : ℕ) → get_or (none_taken hs) s 0 ≡ 0
none_placed [] s = refl
none_placed (h ∷ hs) zero = refl
none_placed (h ∷ hs) (suc s) = none_placed hs s

-- nothing is placed yet
pub begins_order : (hs : List (List Entry)) (counts order : List ℕ) (told : List Statement) → none_taken hs ≡ counts → order ≡ [] → told ≡ []
    → IsOrdered hs counts order told 0
begins_order hs counts order told is none nothing =
    subst (λ (o : List ℕ). IsOrdered hs counts o told 0) (sym none)
    (record {
      reached = begins hs counts told nothing;
      woven = starts hs counts (λ s. ap (λ (k : List ℕ). get_or k s 0) (sym is) ∙ none_placed hs s);
      taken = is;
    })

-- one turn more
pub orders_more : (hs : List (List Entry)) (counts seen order more : List ℕ) (told grown : List Statement) (s n from on : ℕ) (e : Entry)
    → length counts ≡ length hs → seen ≡ counts → more ≡ order ++ s ∷ [] → n ≡ get_or counts s n
    → IsTurn hs seen (reverse (taken_by hs order)) s e
    → ((st : Statement) → Contains grown st ↔ ((statement_of e ≡ Some st) ⊎ Contains told st)) → GoesOn e s on
    → IsOrdered hs counts order told from → IsOrdered hs (set counts s (n + 1)) more grown on
orders_more hs counts seen order more told grown s n from on e len same pushed found turned added goes so =
    let next : upcoming hs counts s ≡ Some e = subst (λ (k : List ℕ). upcoming hs k s ≡ Some e) same turned.next in
    let below : s < length hs = turned.inside in
    let at : n ≡ get_or counts s 0 = any_default counts s n (omega arith) found in
    let one = taken_more hs (none_taken hs) order counts s e so.taken next in
    let trace : taken_by hs more ≡ taken_by hs order ++ e ∷ [] = ap (taken_by hs) pushed ∙ one.trace in
    record {
      reached = reaches hs counts seen told grown (taken_by hs order) (taken_by hs more) s (n + 1) on e same trace turned so.reached.knows added goes;
      woven = turns_at hs counts seen (taken_by hs order) (taken_by hs order) (taken_by hs more) s n e len same refl trace found turned so.woven;
      taken = subst (λ (o : List ℕ). IsTakenTo hs (none_taken hs) o (set counts s (n + 1))) (sym pushed)
          (subst (λ (k : ℕ). IsTakenTo hs (none_taken hs) (order ++ s ∷ []) (set counts s (k + 1))) (sym at) one.to);
    }
