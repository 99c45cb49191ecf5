-- What both parts of the work find, joined, tells the verdict.
use Rattle.std.proofs.Common.{◌≡◌, ℕ, zero, suc, ◌+◌, ◌*◌, ◌<◌, ◌≤◌, Bool, true, false, cond, ◌&&◌, ◌||◌, List, [], ◌∷◌, length, reverse, take_all, refl, sym, ◌∙◌, ap, subst, inl, inr, arith, eqb, ltb, Some, None, Option}
use Rattle.std.specs.Prelude.{slice_get, ◌⊎◌}
use Rattle.std.proofs.lemmas.Bool.{cases_eq, or_cases, and_parts, and_cases, eqb-true, eqb-false, ltb-true, ltb-false}
use Rattle.std.proofs.lemmas.Option.{get_or_from_slice_get, slice_get_cases}
use Rattle.field_bounds.specs.declared.entry.Entry.{Entry}
use Rattle.field_bounds.specs.Schema.{SchemaValue}
use Rattle.central_rules.specs.declared.verdict.Rule.{Rule}
use Rattle.central_rules.specs.declared.verdict.Rule.TheVariants.{Site, Grant, Shortage, Interval, Statement as Told, Reply as Owed}
use Rattle.central_rules.specs.declared.verdict.Verdict.TheVariants.{Legal, Illegal}
use Rattle.central_rules.specs.Verdict.{broken_rule, first_broken, rules, verdict_back, verdict_of, test_of}
use Rattle.central_rules.proofs.Verdicts.{none_broken, stop_here}
use Rattle.central_machine.specs.declared.part.Part.{Part}
use Rattle.central_machine.specs.declared.part.Part.TheVariants.{Statements, OnTotals}
use Rattle.central_machine.specs.declared.part.RuleFault.{RuleFault}
use Rattle.central_machine.specs.Parts.{front_of, totals_tests, part_rule, IsBefore, IsFault, rank, is_before, earlier}
use Rattle.central_machine.proofs.Found.{some_is, front_next}
use Rattle.central_machine.proofs.Totals_more.{legal_next}

-- ---- the order of faults

rank_small : (r : Rule) → rank r ≤ 5
rank_small Site = omega arith
rank_small Grant = omega arith
rank_small Shortage = omega arith
rank_small Interval = omega arith
rank_small Told = omega arith
rank_small Owed = omega arith

-- a lesser number is an earlier fault
abbrev key : RuleFault → ℕ
key f = f.place * 6 + rank f.rule

or_false : (x y : Bool) → (x || y) ≡ false → (x ≡ false) × (y ≡ false)
or_false true y h = cc
or_false false y h = (refl, h)

less_key : (q p : RuleFault) → is_before q p ≡ true → key q < key p
less_key q p h =
    elim (or_cases (ltb q.place p.place) (eqb q.place p.place && ltb (rank q.rule) (rank p.rule)) h) [
      | inl less ↦ let l = ltb-true q.place p.place less in omega (arith, l, rank_small q.rule)
      | inr both ↦
          let parts = and_parts (eqb q.place p.place) (ltb (rank q.rule) (rank p.rule)) both in
          omega (arith, eqb-true q.place p.place parts.0, ltb-true (rank q.rule) (rank p.rule) parts.1)
    ]

most_key : (q p : RuleFault) → is_before q p ≡ false → key p ≤ key q
most_key q p h =
    let parts = or_false (ltb q.place p.place) (eqb q.place p.place && ltb (rank q.rule) (rank p.rule)) h in
    let most = ltb-false q.place p.place parts.0 in
    elim (and_cases (eqb q.place p.place) (ltb (rank q.rule) (rank p.rule)) parts.1) [
      | inl apart ↦ let ne = eqb-false q.place p.place apart in
          elim (cases_eq q.place p.place) [
            | inl same ↦ absurd (ne same)
            | inr other ↦ omega (arith, most, other, rank_small p.rule)
          ]
      | inr later ↦ omega (arith, most, ltb-false (rank q.rule) (rank p.rule) later)
    ]

-- a fault, if there is one, isn't later than another
abbrev NoLater : Option RuleFault → Option RuleFault → Type 0
NoLater None None = Unit {0}
NoLater (Some f) None = Unit {0}
NoLater None (Some g) = ⊥
NoLater (Some f) (Some g) = key f ≤ key g

no_later : (a : Option RuleFault) → NoLater a a
no_later None = tt
no_later (Some f) = omega arith

still_no_later : (a b c : Option RuleFault) → NoLater a b → NoLater b c → NoLater a c
still_no_later None b None h k = tt
still_no_later (Some e) b None h k = tt
still_no_later a None (Some g) h k = absurd k
still_no_later None (Some f) (Some g) h k = absurd h
still_no_later (Some e) (Some f) (Some g) h k = omega (arith, h, k)

earlier_leads : (a b : Option RuleFault) → NoLater (earlier a b) a × NoLater (earlier a b) b
earlier_leads None None = (tt, tt)
earlier_leads None (Some q) = (tt, omega arith)
earlier_leads (Some p) None = (omega arith, tt)
earlier_leads (Some p) (Some q) = at (is_before q p) refl
  where
    at : (b : Bool) → is_before q p ≡ b → NoLater (cond b (Some q) (Some p)) (Some p) × NoLater (cond b (Some q) (Some p)) (Some q)
    at true e = (let less = less_key q p e in omega (arith, less), omega arith)
    at false e = (omega arith, most_key q p e)

one_of : (a b : Option RuleFault) (f : RuleFault) → earlier a b ≡ Some f → (a ≡ Some f) ⊎ (b ≡ Some f)
one_of None b f e = inr e
one_of (Some p) None f e = inl e
one_of (Some p) (Some q) f e = pick (is_before q p) e
  where
    pick : (b : Bool) → cond b (Some q) (Some p) ≡ Some f → (Some p ≡ Some f) ⊎ (Some q ≡ Some f)
    pick true e = inr e
    pick false e = inl e

before_too : (i : ℕ) (a b : Option RuleFault) → IsBefore i a → NoLater a b → IsBefore i b
before_too i None None h k = tt
before_too i (Some f) None h k = tt
before_too i None (Some g) h k = absurd k
before_too i (Some f) (Some g) h k = omega (arith, h, k, rank_small g.rule)

-- ---- the rules before one

-- no rule before the n-th is broken
abbrev Clear : ℕ → Option Rule → Type 0
Clear n None = Unit {0}
Clear n (Some r) = n ≤ rank r

-- the rules of tests stand in order, from the n-th on
abbrev AreFrom : ℕ → List (Bool × Rule) → Type 0
AreFrom n [] = Unit {0}
AreFrom n (test ∷ rest) = (n ≤ rank test.1) × AreFrom (rank test.1) rest

abbrev HoldBelow : ℕ → List (Bool × Rule) → Type 0
HoldBelow n [] = Unit {0}
HoldBelow n (test ∷ rest) = (rank test.1 < n → test.0 ≡ true) × HoldBelow n rest

none_below : (n m : ℕ) (tests : List (Bool × Rule)) → n ≤ m → AreFrom m tests → HoldBelow n tests
none_below n m [] past order = tt
none_below n m (test ∷ rest) past order = (
  λ less. absurd (let from = order.0 in omega (arith, past, from, less)),
  none_below n (rank test.1) rest (let from = order.0 in omega (arith, past, from)) order.1,
)

hold_below : (n m : ℕ) (tests : List (Bool × Rule)) → AreFrom m tests → Clear n (first_broken tests) → HoldBelow n tests
hold_below n m [] order h = tt
hold_below n m (test ∷ rest) order h = at (λ more. hold_below n (rank test.1) rest order.1 more) test.0 refl h
  where
    at : (Clear n (first_broken rest) → HoldBelow n rest) → (b : Bool) → test.0 ≡ b → Clear n (cond b (first_broken rest) (Some test.1))
        → HoldBelow n (test ∷ rest)
    at later true is h = (λ less. is, later h)
    at later false is h = (λ less. absurd (omega (arith, h, less)), none_below n (rank test.1) rest h order.1)

-- each test that fails is one of a rule that doesn't hold
abbrev Stands : (Rule → Bool) → List (Bool × Rule) → Type 0
Stands T [] = Unit {0}
Stands T (test ∷ rest) = (test.0 ≡ false → T test.1 ≡ false) × Stands T rest

fails_in : (T : Rule → Bool) (tests : List (Bool × Rule)) → Stands T tests → (r : Rule) → first_broken tests ≡ Some r → T r ≡ false
fails_in T [] h r e = cc
fails_in T (test ∷ rest) h r e = at (λ more. fails_in T rest h.1 r more) test.0 refl e
  where
    at : (first_broken rest ≡ Some r → T r ≡ false) → (b : Bool) → test.0 ≡ b → cond b (first_broken rest) (Some test.1) ≡ Some r
        → T r ≡ false
    at later true is e = later e
    at later false is e = subst (λ (x : Rule). T x ≡ false) (some_is test.1 r e) (h.0 is)

module _ (schema : SchemaValue) (t : List Entry) (e : Entry) where
  abbrev told_tests : List (Bool × Rule)
  told_tests = (test_of schema t e Site, Site) ∷ (test_of schema t e Told, Told) ∷ []

  -- a rule that a part names is broken
  fails : (part : Part) (r : Rule) → part_rule schema t e part ≡ Some r → test_of schema t e r ≡ false
  fails Statements r h = fails_in (test_of schema t e) told_tests ((λ x. x), ((λ x. x), tt)) r h
  fails OnTotals r h = at (ltb e.site.0 schema.sites) h
    where
      at : (b : Bool) → cond b (first_broken (totals_tests schema t e)) None ≡ Some r → test_of schema t e r ≡ false
      at true h = fails_in (test_of schema t e) (totals_tests schema t e) ((λ x. x), ((λ x. x), ((λ x. x), ((λ x. x), tt)))) r h
      at false h = cc

  module _ (n : ℕ) (statements : Clear n (part_rule schema t e Statements)) (totals : Clear n (part_rule schema t e OnTotals)) where
    first_two : HoldBelow n told_tests
    first_two = hold_below n 0 told_tests (omega arith, (omega arith, tt)) statements

    totals_hold : 0 < n → HoldBelow n (totals_tests schema t e)
    totals_hold some =
        hold_below n 1 (totals_tests schema t e) (omega arith, (omega arith, (omega arith, (omega arith, tt))))
        (subst (λ (b : Bool). Clear n (cond b (first_broken (totals_tests schema t e)) None)) (first_two.0 some) totals)

    -- so each rule before the n-th holds
    holds : (r : Rule) → rank r < n → test_of schema t e r ≡ true
    holds Site less = first_two.0 less
    holds Grant less = (totals_hold (omega (arith, less))).0 less
    holds Shortage less = (totals_hold (omega (arith, less))).1.0 less
    holds Interval less = (totals_hold (omega (arith, less))).1.1.0 less
    holds Told less = first_two.1.0 less
    holds Owed less = (totals_hold (omega (arith, less))).1.1.1.0 less

  all_hold_none : ((r : Rule) → test_of schema t e r ≡ true) → broken_rule schema t e ≡ None
  all_hold_none h = none_broken (rules schema t e) (h Site, (h Grant, (h Shortage, (h Interval, (h Told, (h Owed, tt))))))

  first_is : (r : Rule) → ((b : Rule) → rank b < rank r → test_of schema t e b ≡ true) → test_of schema t e r ≡ false
      → broken_rule schema t e ≡ Some r
  first_is Site h isnt = rw isnt refl
  first_is Grant h isnt = rw (h Site (omega arith), isnt) refl
  first_is Shortage h isnt = rw (h Site (omega arith), h Grant (omega arith), isnt) refl
  first_is Interval h isnt = rw (h Site (omega arith), h Grant (omega arith), h Shortage (omega arith), isnt) refl
  first_is Told h isnt = rw (h Site (omega arith), h Grant (omega arith), h Shortage (omega arith), h Interval (omega arith), isnt) refl
  first_is Owed h isnt =
      rw (h Site (omega arith), h Grant (omega arith), h Shortage (omega arith), h Interval (omega arith), h Told (omega arith), isnt) refl

-- ---- the verdict

module _ (schema : SchemaValue) (entries : List Entry) (told tested : Option RuleFault) (of_statements : IsFault schema entries Statements told)
    (of_totals : IsFault schema entries OnTotals tested) where
  -- an entry before both faults breaks no rule
  unbroken : (i : ℕ) (e : Entry) → slice_get entries i ≡ Some e → IsBefore i (earlier told tested)
      → verdict_back schema (front_of entries i) ≡ Legal → broken_rule schema (front_of entries i) e ≡ None
  unbroken i e at before legal =
      let lead = earlier_leads told tested in
      all_hold_none schema (front_of entries i) e (λ r. holds schema (front_of entries i) e 6 (clear Statements told of_statements lead.0)
      (clear OnTotals tested of_totals lead.1) r
      (let small = rank_small r in omega (arith, small)))
    where
      clear : (part : Part) (y : Option RuleFault) → IsFault schema entries part y → NoLater (earlier told tested) y
          → Clear 6 (part_rule schema (front_of entries i) e part)
      clear part y is leads = subst (λ (o : Option Rule). Clear 6 o)
          (sym (is.passed i e at (before_too i (earlier told tested) y before leads) legal)) tt

  legal_before : (i : ℕ) → i ≤ length entries → ((j : ℕ) → j < i → IsBefore j (earlier told tested))
      → verdict_back schema (front_of entries i) ≡ Legal
  unfolding verdict_back
  legal_before zero within before = refl
  legal_before (suc i) within before =
      elim (slice_get_cases entries i).1 [
        | inl some ↦
            let legal = legal_before i (omega (arith, within)) (λ j less. before j (omega (arith, less))) in
            let good_one = unbroken i some.0 some.2 (before i (omega arith)) legal in
            let e : suc i ≡ i + 1 = omega arith in
            rw e (rw (front_next entries i some.0 some.2) (legal_next schema some.0 (front_of entries i) legal good_one))
        | inr past ↦ absurd (let over = past.0 in omega (arith, over, within))
      ]

  -- neither part finds a fault
  pub none_found : earlier told tested ≡ None → Legal ≡ verdict_of schema entries
  none_found none =
      let legal = legal_before (length entries) (omega arith) (λ j less. subst (λ (f : Option RuleFault). IsBefore j f) (sym none) tt) in
      sym legal ∙ ap (λ (xs : List Entry). verdict_back schema (reverse xs)) (take_all (length entries) entries (omega arith))

  module _ (f : RuleFault) (first : earlier told tested ≡ Some f) where
    -- a part that found it
    finder : (part : Part) × IsFault schema entries part (Some f)
    finder =
        elim (one_of told tested f first) [
          | inl here ↦ (Statements, subst (λ (x : Option RuleFault). IsFault schema entries Statements x) here of_statements)
          | inr here ↦ (OnTotals, subst (λ (x : Option RuleFault). IsFault schema entries OnTotals x) here of_totals)
        ]

    pub inside : f.place < length entries
    inside = finder.1.within f refl

    legal_there : verdict_back schema (front_of entries f.place) ≡ Legal
    legal_there = legal_before f.place (let l = inside in omega (arith, l))
        (λ j less. subst (λ (x : Option RuleFault). IsBefore j x) (sym first) less)

    module _ (e : Entry) (at : slice_get entries f.place ≡ Some e) where
      -- no part tells an earlier rule here
      clear_in : (part : Part) (y : Option RuleFault) → IsFault schema entries part y → NoLater (Some f) y
          → Clear (rank f.rule) (part_rule schema (front_of entries f.place) e part)
      clear_in part None is h = subst (λ (o : Option Rule). Clear (rank f.rule) o) (sym (is.passed f.place e at tt legal_there)) tt
      clear_in part (Some g) is h =
          elim (cases_eq f.place g.place) [
            | inl same ↦
                let told = is.failed g e refl (subst (λ (p : ℕ). slice_get entries p ≡ Some e) same at)
                (subst (λ (p : ℕ). verdict_back schema (front_of entries p) ≡ Legal) same legal_there) in
                let here = subst (λ (p : ℕ). part_rule schema (front_of entries p) e part ≡ Some g.rule) (sym same) told in
                subst (λ (o : Option Rule). Clear (rank f.rule) o) (sym here) (omega (arith, h, same))
            | inr apart ↦
                subst (λ (o : Option Rule). Clear (rank f.rule) o)
                (sym (is.passed f.place e at (omega (arith, h, apart, rank_small g.rule)) legal_there)) tt
          ]

      clear : (part : Part) (y : Option RuleFault) → IsFault schema entries part y → NoLater (earlier told tested) y
          → Clear (rank f.rule) (part_rule schema (front_of entries f.place) e part)
      clear part y is leads = clear_in part y is (subst (λ (x : Option RuleFault). NoLater x y) first leads)

      rule_is : broken_rule schema (front_of entries f.place) e ≡ Some f.rule
      rule_is =
          first_is schema (front_of entries f.place) e f.rule
          (λ b less. holds schema (front_of entries f.place) e (rank f.rule)
          (clear Statements told of_statements (earlier_leads told tested).0)
          (clear OnTotals tested of_totals (earlier_leads told tested).1) b less)
          (fails schema (front_of entries f.place) e finder.0 f.rule (finder.1.failed f e refl at legal_there))

      at_entry : Illegal (f.place + 1) f.rule ≡ verdict_of schema entries
      at_entry =
          stop_here schema entries f.place e inside legal_there f.rule
          (ap (λ (x : Entry). broken_rule schema (front_of entries f.place) x) (get_or_from_slice_get entries f.place e e at) ∙ rule_is)

    pub one_found : Illegal (f.place + 1) f.rule ≡ verdict_of schema entries
    one_found =
        elim (slice_get_cases entries f.place).1 [
          | inl some ↦ at_entry some.0 some.2
          | inr past ↦ absurd (let over = past.0 in let l = inside in omega (arith, over, l))
        ]
