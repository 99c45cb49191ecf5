-- Where the lowest picks stop, no trace weaves the histories.
use Rattle.std.proofs.Common.{◌≡◌, ◌≢◌, ℕ, ◌+◌, ◌<◌, ◌≤◌, Bool, cond, List, [], ◌∷◌, length, sym, ap, subst, ◌∙◌, inl, inr, ⊎_elim, arith, Some}
use Rattle.std.proofs.lemmas.Bool.{eq-eqb, ne_eqb}
use Rattle.std.proofs.lemmas.Option.{slice_get_within, same_Some}
use Rattle.std.specs.List.{slice_get}
use native.Mathlib.Decide.{ℕ_discrete}
use mathlib.Core.Logic.{dite}
use Rattle.field_bounds.specs.declared.entry.Command.{Command}
use Rattle.field_bounds.specs.declared.entry.Command.TheVariants.{Accept}
use Rattle.field_bounds.specs.declared.entry.Reply.{Reply}
use Rattle.field_bounds.specs.declared.entry.Reply.TheVariants.{Accepted, Unsure}
use Rattle.field_bounds.specs.declared.entry.Entry.{Entry}
use Rattle.field_bounds.specs.declared.entry.Statement.{Statement}
use Rattle.field_bounds.specs.Statements.{statement_of, IsIssued}
use Rattle.field_bounds.specs.Central.{StatementRule}
use Rattle.trace_weave.specs.Weave.{history_at, count_placed, next_of, IsPicked, Waits, NoneWeaves}

pub placed_here : (s p : ℕ) (ps : List ℕ) → p ≡ s → count_placed s (p ∷ ps) ≡ count_placed s ps + 1
placed_here s p ps h = ap (λ (b : Bool). cond b (count_placed s ps + 1) (count_placed s ps)) (eq-eqb p s h)

pub placed_there : (s p : ℕ) (ps : List ℕ) → p ≢ s → count_placed s (p ∷ ps) ≡ count_placed s ps
placed_there s p ps h = ap (λ (b : Bool). cond b (count_placed s ps + 1) (count_placed s ps)) (ne_eqb p s h)

pub rule_grows : (t u : List Entry) (c : Command) (r : Reply) → ((st : Statement) → IsIssued st u → IsIssued st t) → StatementRule u c r
    → StatementRule t c r
rule_grows t u (Accept told) (Accepted gain) g h = g told h
rule_grows t u (Accept told) Unsure g h = g told h
rule_grows t u c r g h = tt

module _ (hs : List (List Entry)) where
  -- an entry among those that were placed stands in the trace
  issued_within : (ps : List ℕ) (t : List Entry) → IsPicked hs ps t → (s n : ℕ) (e : Entry) (st : Statement)
      → slice_get (history_at hs s) n ≡ Some e → n < count_placed s ps → statement_of e ≡ Some st → IsIssued st t
  issued_within [] [] picked s n e st at below states = absurd (omega arith)
  issued_within [] (f ∷ t) picked s n e st at below states = absurd picked
  issued_within (p ∷ ps) [] picked s n e st at below states = absurd picked
  issued_within (p ∷ ps) (f ∷ t) picked s n e st at below states =
      dite (ℕ_discrete p s)
      (λ (here : p ≡ s).
      let more : count_placed s (p ∷ ps) ≡ count_placed s ps + 1 = placed_here s p ps here in
      dite (ℕ_discrete n (count_placed s ps))
      (λ (now : n ≡ count_placed s ps).
      let is : slice_get (history_at hs s) (count_placed s ps) ≡ Some f = subst (λ (q : ℕ). next_of hs q ps ≡ Some f) here picked.0 in
      let too : slice_get (history_at hs s) (count_placed s ps) ≡ Some e =
      subst (λ (m : ℕ). slice_get (history_at hs s) m ≡ Some e) now at in
      let same : e ≡ f = same_Some e f (sym too ∙ is) in
      inl (subst (λ (x : Entry). statement_of x ≡ Some st) same states))
      (λ (other : n ≢ count_placed s ps). inr (issued_within ps t picked.2 s n e st at (omega arith) states)))
      (λ (other : p ≢ s). inr (issued_within ps t picked.2 s n e st at (subst (λ (m : ℕ). n < m) (placed_there s p ps other) below) states))

  -- whatever other picks placed, stands among these, once these wait at each history
  inside : (ps : List ℕ) (t : List Entry) → IsPicked hs ps t → ((j : ℕ) → Waits hs ps t j) → (qs : List ℕ) (u : List Entry)
      → IsPicked hs qs u
      → ((s : ℕ) → count_placed s qs ≤ count_placed s ps) × ((st : Statement) → IsIssued st u → IsIssued st t)
  inside ps t picked waits [] [] by = (λ s. omega arith, λ st none. absurd none)
  inside ps t picked waits [] (e ∷ u) by = absurd by
  inside ps t picked waits (q ∷ qs) [] by = absurd by
  inside ps t picked waits (q ∷ qs) (e ∷ u) by =
      let before : ((s : ℕ) → count_placed s qs ≤ count_placed s ps)
      × ((st : Statement) → IsIssued st u → IsIssued st t) = inside ps t picked waits qs u by.2 in
      let fewer : count_placed q qs ≤ count_placed q ps = before.0 q in
      let strict : count_placed q qs < count_placed q ps =
      dite (ℕ_discrete (count_placed q qs) (count_placed q ps))
      (λ (same : count_placed q qs ≡ count_placed q ps).
      absurd (waits q e (subst (λ (n : ℕ). slice_get (history_at hs q) n ≡ Some e) same by.0)
      (rule_grows t u e.command e.reply before.1 by.1)))
      (λ (other : count_placed q qs ≢ count_placed q ps). omega arith)
      in (
        λ s. dite (ℕ_discrete q s)
            (λ (here : q ≡ s).
            subst (λ (m : ℕ). m ≤ count_placed s ps) (sym (placed_here s q qs here))
            (subst (λ (k : ℕ). count_placed k qs + 1 ≤ count_placed k ps) here (omega arith)))
            (λ (other : q ≢ s). subst (λ (m : ℕ). m ≤ count_placed s ps) (sym (placed_there s q qs other)) (before.0 s)),
        λ st is. ⊎_elim
            (λ (now : statement_of e ≡ Some st). issued_within ps t picked q (count_placed q qs) e st by.0 strict now)
            (λ (old : IsIssued st u). before.1 st old)
            is,
      )

  pub none_weaves : (ps : List ℕ) (t : List Entry) → IsPicked hs ps t → ((j : ℕ) → Waits hs ps t j) → (s : ℕ) (e : Entry)
      → next_of hs s ps ≡ Some e → NoneWeaves hs
  none_weaves ps t picked waits s e left u w =
      let fewer : count_placed s w.0 ≤ count_placed s ps = (inside ps t picked waits w.0 u w.1).0 s in
      let more : count_placed s ps < length (history_at hs s) = slice_get_within (history_at hs s) (count_placed s ps) e left in
      let all : count_placed s w.0 ≡ length (history_at hs s) = w.2 s in
      omega arith
