use Rattle.std.proofs.Common.{◌≡◌, ℕ, ◌++◌, ◌∷◌, [], List, length, map, sym, ap, ◌∙◌, arith, append_assoc, rules}
use Rattle.std.specs.Prelude.{Result, Ok, Err}
use Rattle.std.proofs.lemmas.List.{length-append, map_push}
use Rattle.world_logs.proofs.outcomes.standings_or_fault.Goals as goal

abbrev stands : (A : Type 0) → A → Result A ℕ
stands A x = Ok x

module _ {A : Type 0} (told rest all : List (Result A ℕ)) (xs : List A) (whole : told ++ rest ≡ all)
    (same : told ≡ map (stands A) xs) where
  -- with one site more
  one_more : (x : A) → told ++ Ok x ∷ [] ≡ map (stands A) (xs ++ x ∷ [])
  one_more x = ap (λ (l : List (Result A ℕ)). l ++ Ok x ∷ []) same ∙ sym (map_push (stands A) xs x)

  -- where the rest begins with this
  split_at : (above : List (Result A ℕ)) (one : Result A ℕ) → rest ≡ one ∷ above → all ≡ map (stands A) xs ++ one ∷ above
  split_at above one is =
      sym whole ∙ ap (λ (l : List (Result A ℕ)). told ++ l) is ∙ ap (λ (l : List (Result A ℕ)). l ++ one ∷ above) same

pub loop-outcome-preserved : goal.loop-outcome-preserved
loop-outcome-preserved g c =
    let T = g.row.T.Denot in
    let told = c.loop-outcome.yielded in
    let old = c.loop-outcome.standings.items in
    let rest = c.next.new.self.rest.items in
    let was = c.loop-outcome.invariant in
    let grown : c.push.new.self.items ≡ old ++ c.in-Ok.standing ∷ [] = c.in_ok-push-in-Ok.ensures.items in
    record {
      site = omega (arith, was.site, ap length grown, length-append old (c.in-Ok.standing ∷ []));
      whole = append_assoc told (c.in-Some.outcome ∷ []) rest ∙ ap (λ (l : List (Result T ℕ)). told ++ l) (sym c.in-Some.ensures.steps.0)
          ∙ was.whole;
      same = ap (λ (one : Result T ℕ). told ++ one ∷ []) c.in-Ok.is
          ∙ one_more told c.loop-outcome.outcome-iterator.rest.items c.args.outcomes.items old was.whole was.same c.in-Ok.standing
          ∙ ap (λ (l : List T). map (stands T) l) (sym grown);
    }

pub returns-in-Err-clause-fault : goal.returns-in-Err-clause-fault
returns-in-Err-clause-fault g c =
    let was = c.loop-outcome.invariant in
    let rest = c.loop-outcome.outcome-iterator.rest.items in
    let old = c.loop-outcome.standings.items in
    record {
      below = old;
      above = c.next.new.self.rest.items;
      all = split_at c.loop-outcome.yielded rest c.args.outcomes.items old was.whole was.same c.next.new.self.rest.items
          (Err c.in-Err.number)
          (c.in-Some.ensures.steps.0
          ∙ ap (λ (one : Result g.row.T.Denot ℕ). one ∷ c.next.new.self.rest.items) c.in-Err.is);
      site = was.site;
    }

pub drop-outcome-iterator-requires-in-Err : goal.drop-outcome-iterator-requires-in-Err
drop-outcome-iterator-requires-in-Err g c κs = search rules

pub drop-standings-requires-in-Err : goal.drop-standings-requires-in-Err
drop-standings-requires-in-Err g c κs = search rules

pub returns-in-Err-clause-standings : goal.returns-in-Err-clause-standings
returns-in-Err-clause-standings g c = search rules
