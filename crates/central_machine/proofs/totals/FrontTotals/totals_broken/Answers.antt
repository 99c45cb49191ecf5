use Rattle.std.proofs.Common.{◌≡◌, Bool, true, false, cond, List, [], ◌∷◌, ◌++◌, sym, ◌∙◌, ltb, Some, None, rules}
use Rattle.central_rules.specs.declared.verdict.Rule.{Rule}
use Rattle.central_rules.specs.declared.verdict.Rule.TheVariants.{Reply as Owed}
use Rattle.central_rules.specs.Verdict.{first_broken, test_of}
use Rattle.central_machine.specs.Parts.{field_tests}
use Rattle.central_machine.proofs.totals.FrontTotals.totals_broken.Goals as goal

-- the first test that fails is the first with one more test behind it
first_more : (tests : List (Bool × Rule)) (last : Bool × Rule) (r : Rule) → first_broken tests ≡ Some r → first_broken (tests ++ last ∷ []) ≡ Some r
first_more [] last r h = cc
first_more (test ∷ rest) last r h = at (λ more. first_more rest last r more) test.0 h
  where
    at : (first_broken rest ≡ Some r → first_broken (rest ++ last ∷ []) ≡ Some r) → (b : Bool) → cond b (first_broken rest) (Some test.1) ≡ Some r
        → cond b (first_broken (rest ++ last ∷ [])) (Some test.1) ≡ Some r
    at later true first = later first
    at later false first = first

more_at : (b : Bool) (tests : List (Bool × Rule)) (last : Bool × Rule) (r : Rule) → cond b (first_broken tests) None ≡ Some r
    → Some r ≡ cond b (first_broken (tests ++ last ∷ [])) None
more_at true tests last r h = sym (first_more tests last r h)
more_at false tests last r h = cc

pub returns-in-Some : goal.returns-in-Some
returns-in-Some c = λ t are.
    let schema = c.args.schema.now in
    let e = c.args.entry.now in
    more_at (ltb e.site.0 schema.sites) (field_tests schema t e) (test_of schema t e Owed, Owed) c.in-Some.rule
    (sym (c.field_broken.ensures t are) ∙ c.in-Some.is)

pub returns-then-not-reply_holds : goal.returns-then-not-reply_holds
returns-then-not-reply_holds c = search rules
