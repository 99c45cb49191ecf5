-- The number of the first such statement.
use Rattle.std.proofs.Common.{◌≡◌, ℕ, suc, ◌≤◌, ◌≢◌, Bool, true, false, ◌&&◌, cond, List, [], ◌∷◌, length, refl, sym, ◌∙◌, ap, subst, inl, inr, arith, eqb, Option, Some, None}
use Rattle.std.proofs.lemmas.Bool.{cases_Bool, cases_eq, eq-eqb, ne_eqb, eqb-true, and_parts}
use Rattle.field_bounds.specs.declared.entry.Statement.{Statement}
use Rattle.field_bounds.specs.declared.entry.Entry.{Entry}
use Rattle.field_bounds.specs.Kind.{same_kind}
use Rattle.field_bounds.specs.Statements.{statement_of, IsIssued}
use Rattle.field_bounds.proofs.Lawful.{same_kind-true}
use Rattle.world_steps.specs.World.{with_statement, statements_issued, statement_at}
use Rattle.reaching_steps.specs.Reach.{same_statement, number_of}
use Rattle.reaching_steps.proofs.Sites.{same_kind-refl}

same_statement-refl : (x : Statement) → same_statement x x ≡ true
same_statement-refl x =
    rw (
      eq-eqb x.from.0 x.from.0 refl,
      eq-eqb x.to.0 x.to.0 refl,
      eq-eqb x.field.0 x.field.0 refl,
      same_kind-refl x.kind,
      eq-eqb x.total x.total refl,
    ) refl

abbrev copied : Statement → Statement
copied x = record { from = record { 0 = x.from.0 }; to = record { 0 = x.to.0 }; field = record { 0 = x.field.0 }; kind = x.kind; total = x.total }

same_statement-true : (x y : Statement) → same_statement x y ≡ true → x ≡ y
same_statement-true x y h =
    let a = and_parts ((eqb x.from.0 y.from.0) && (eqb x.to.0 y.to.0) && (eqb x.field.0 y.field.0) && same_kind x.kind y.kind)
    (eqb x.total y.total) h in
    let b = and_parts ((eqb x.from.0 y.from.0) && (eqb x.to.0 y.to.0) && (eqb x.field.0 y.field.0)) (same_kind x.kind y.kind) a.0 in
    let c = and_parts ((eqb x.from.0 y.from.0) && (eqb x.to.0 y.to.0)) (eqb x.field.0 y.field.0) b.0 in
    let d = and_parts (eqb x.from.0 y.from.0) (eqb x.to.0 y.to.0) c.0 in
    let from : x.from.0 ≡ y.from.0 = eqb-true _ _ d.0 in
    let to : x.to.0 ≡ y.to.0 = eqb-true _ _ d.1 in
    let field : x.field.0 ≡ y.field.0 = eqb-true _ _ c.1 in
    let kind : x.kind ≡ y.kind = same_kind-true _ _ b.1 in
    let total : x.total ≡ y.total = eqb-true _ _ a.1 in
    let made : ◌≡◌ {A = Statement} (copied x) (copied y) = cc in
    made

-- a number is at most as great as the list is long
number_step : (n : ℕ) (same : Bool) (long : ℕ) → n ≤ long → cond (eqb n 0) (cond same (suc long) 0) n ≤ suc long
number_step n same long h =
    elim (eqb n 0) as (λ b. cond b (cond same (suc long) 0) n ≤ suc long) [
      | true ↦ elim same as (λ c. cond c (suc long) 0 ≤ suc long) [ true ↦ omega arith | false ↦ omega arith ]
      | false ↦ omega (arith, h)
    ]

number_within : (x : Statement) (ys : List Statement) → number_of x ys ≤ length ys
number_within x [] = omega arith
number_within x (y ∷ ys) = number_step (number_of x ys) (same_statement y x) (length ys) (number_within x ys)

-- what has a number is the statement of that number
pub numbered_number : (x : Statement) (ys : List Statement) → number_of x ys ≢ 0 → statement_at (number_of x ys) ys ≡ Some x
numbered_number x [] some = absurd (some refl)
numbered_number x (y ∷ ys) some =
    elim (cases_eq (number_of x ys) 0) [
      | inl none ↦
          elim (cases_Bool (same_statement y x)) [
            | inl same ↦
                let is : number_of x (y ∷ ys) ≡ suc (length ys) = rw (eq-eqb (number_of x ys) 0 none, same) refl in
                rw is (rw (eq-eqb (suc (length ys)) (suc (length ys)) refl) (ap Some (same_statement-true y x same)))
            | inr apart ↦
                let is : number_of x (y ∷ ys) ≡ 0 = rw (eq-eqb (number_of x ys) 0 none, apart) refl in
                absurd (some is)
          ]
      | inr before ↦
          let is : number_of x (y ∷ ys) ≡ number_of x ys = rw (ne_eqb (number_of x ys) 0 before) refl in
          let small = number_within x ys in
          let next : statement_at (number_of x ys) (y ∷ ys) ≡ statement_at (number_of x ys) ys =
          ap (λ (b : Bool). cond b (Some y) (statement_at (number_of x ys) ys))
          (ne_eqb (number_of x ys) (suc (length ys)) (λ e. omega (arith, e, small))) in
          ap (λ (n : ℕ). statement_at n (y ∷ ys)) is ∙ next ∙ numbered_number x ys before
    ]

-- what was issued has a number
here_numbered : (x : Statement) (ys : List Statement) → number_of x (x ∷ ys) ≢ 0
here_numbered x ys =
    elim (cases_eq (number_of x ys) 0) [
      | inl none ↦
          let is : number_of x (x ∷ ys) ≡ suc (length ys) = rw (eq-eqb (number_of x ys) 0 none, same_statement-refl x) refl in
          λ e. omega (arith, e, is)
      | inr before ↦
          let is : number_of x (x ∷ ys) ≡ number_of x ys = rw (ne_eqb (number_of x ys) 0 before) refl in
          λ e. before (sym is ∙ e)
    ]

there_numbered : (x y : Statement) (ys : List Statement) → number_of x ys ≢ 0 → number_of x (y ∷ ys) ≢ 0
there_numbered x y ys before =
    let is : number_of x (y ∷ ys) ≡ number_of x ys = rw (ne_eqb (number_of x ys) 0 before) refl in
    λ e. before (sym is ∙ e)

later_numbered : (x : Statement) (o : Option Statement) (ys : List Statement) → number_of x ys ≢ 0 → number_of x (with_statement o ys) ≢ 0
later_numbered x None ys before = before
later_numbered x (Some y) ys before = there_numbered x y ys before

pub issued_numbered : (x : Statement) (t : List Entry) → IsIssued x t → number_of x (statements_issued t) ≢ 0
issued_numbered x [] h = absurd h
issued_numbered x (e ∷ t) (inr before) = later_numbered x (statement_of e) (statements_issued t) (issued_numbered x t before)
issued_numbered x (e ∷ t) (inl now) =
    subst (λ (o : Option Statement). number_of x (with_statement o (statements_issued t)) ≢ 0) (sym now)
    (here_numbered x (statements_issued t))
