use Rattle.std.proofs.Common.{◌≡◌, ◌∙◌, ◌<◌, ℕ, List, length, ap, sym, subst, inl, inr, rules, arith}
use Rattle.std.specs.Prelude.{sum_by}
use Rattle.std.proofs.lemmas.Bool.{cases_eq, false≢true}
use Rattle.field_bounds.specs.declared.kind.Kind.{Kind}
use Rattle.field_bounds.specs.declared.kind.Kind.TheVariants.{Lower, Raise}
use Rattle.field_bounds.specs.Parts.{field_at, width_of}
use Rattle.kept_records.specs.declared.total.Total.{Total}
use Rattle.log_bases.specs.Bases.{BalancesOn, given_told}
use Rattle.log_bases.specs.Numbers.{on_field}
use Rattle.log_bases.proofs.Formed.{form_count}
use Rattle.log_bases.proofs.Sums.{gifts_sum, accepts_sum}
use Rattle.log_bases.proofs.balance.is_balanced.Goals as goal
use Rattle.log_bases.proofs.balance.is_balanced.Goals.{else-width-eq0-via-then-width-eq0+else-given-ne0, else-width-eq0-via-else-width-eq0}

-- the sum over one list that was lent
sum_here : (f : ℕ) (k : Kind) (ts us : List Total) (result told : ℕ) → result ≡ sum_by (on_field f k) ts → ts ≡ us
    → sum_by (on_field f k) us ≡ told → result ≡ told
sum_here f k ts us result told sum same is = sum ∙ ap (λ (l : List Total). sum_by (on_field f k) l) same ∙ is

pub guarded_on-guarded-requires-clause-field_in : goal.guarded_on-guarded-requires-clause-field_in
guarded_on-guarded-requires-clause-field_in c =
    let form = c.is_canonical.ensures.is.0 c.if-not-is_canonical.false in
    omega (
      arith,
      form_count c.args.schema.now c.fields-number-end.ensures.limits c.args.site.0 c.args.base.now c.requires.in_range form,
      c.loop-number-test.true,
      c.fields-number-end.ensures.value,
    )

pub returns-then-from-given : goal.returns-then-from-given
returns-then-from-given c =
    let schema = c.args.schema.now in
    let s = c.args.site.0 in
    let base = c.args.base.now in
    let f = c.loop-number.number in
    let below : f < length schema.fields = omega (arith, c.loop-number-test.true, c.fields-number-end.ensures.value) in
    let form = c.is_canonical.ensures.is.0 c.if-not-is_canonical.false in
    let gl = sum_here f Lower _ _ _ _ c.sum_on.ensures.sum c.gifts.ensures.all (gifts_sum schema s base form f Lower below) in
    let gr = sum_here f Raise _ _ _ _ c.sum_on-in-loop-number.ensures.sum c.gifts-in-loop-number.ensures.all
    (gifts_sum schema s base form f Raise below) in
    let al = sum_here f Lower _ _ _ _ c.sum_on-in-loop-number-2.ensures.sum c.accepts.ensures.all
    (accepts_sum schema s base form f Lower below) in
    let ar = sum_here f Raise _ _ _ _ c.sum_on-in-loop-number-3.ensures.sum c.accepts-in-loop-number.ensures.all
    (accepts_sum schema s base form f Raise below) in
    record {
      is = (
        (λ no. absurd (false≢true no)),
        λ is.
            absurd (c.if-from-given.true (omega (
              arith,
              (is.fields f below).balanced,
              c.from-in-loop-number.ensures,
              c.guarded_on-guarded.ensures.value,
              c.from-lower.ensures,
              c.part.ensures.value,
              c.from.ensures,
              c.part-in-loop-number.ensures.value,
              gl,
              gr,
              al,
              ar,
            ))),
      );
    }

pub returns-then-given-ne0 : goal.returns-then-given-ne0
returns-then-given-ne0 c =
    let schema = c.args.schema.now in
    let s = c.args.site.0 in
    let base = c.args.base.now in
    let f = c.loop-number.number in
    let below : f < length schema.fields = omega (arith, c.loop-number-test.true, c.fields-number-end.ensures.value) in
    let form = c.is_canonical.ensures.is.0 c.if-not-is_canonical.false in
    let width : c.abs_diff-width.result ≡ width_of (field_at schema f) = search rules in
    let gl = sum_here f Lower _ _ _ _ c.sum_on.ensures.sum c.gifts.ensures.all (gifts_sum schema s base form f Lower below) in
    let gr = sum_here f Raise _ _ _ _ c.sum_on-in-loop-number.ensures.sum c.gifts-in-loop-number.ensures.all
    (gifts_sum schema s base form f Raise below) in
    record {
      is = (
        (λ no. absurd (false≢true no)),
        λ is. absurd (c.if-given-ne0.true (omega (arith, (is.fields f below).still (sym width ∙ c.if-width-eq0.true), gl, gr))),
      );
    }

pub loop-number-preserved : goal.loop-number-preserved
loop-number-preserved c =
    let schema = c.args.schema.now in
    let s = c.args.site.0 in
    let base = c.args.base.now in
    let f = c.loop-number.number in
    let below : f < length schema.fields = omega (arith, c.loop-number-test.true, c.fields-number-end.ensures.value) in
    let form = c.is_canonical.ensures.is.0 c.if-not-is_canonical.false in
    let width : c.abs_diff-width.result ≡ width_of (field_at schema f) = search rules in
    let gl = sum_here f Lower _ _ _ _ c.sum_on.ensures.sum c.gifts.ensures.all (gifts_sum schema s base form f Lower below) in
    let gr = sum_here f Raise _ _ _ _ c.sum_on-in-loop-number.ensures.sum c.gifts-in-loop-number.ensures.all
    (gifts_sum schema s base form f Raise below) in
    let al = sum_here f Lower _ _ _ _ c.sum_on-in-loop-number-2.ensures.sum c.accepts.ensures.all
    (accepts_sum schema s base form f Lower below) in
    let ar = sum_here f Raise _ _ _ _ c.sum_on-in-loop-number-3.ensures.sum c.accepts-in-loop-number.ensures.all
    (accepts_sum schema s base form f Raise below) in
    let still : width_of (field_at schema f) ≡ 0 → given_told schema base f ≡ 0 = λ narrow.
    elim c.else-width-eq0.branch [
      | else-width-eq0-via-then-width-eq0+else-given-ne0 w ↦ omega (arith, w.if-given-ne0.false, gl, gr)
      | else-width-eq0-via-else-width-eq0 w ↦ absurd (w.if-width-eq0.false (width ∙ narrow))
    ] in
    let here : BalancesOn schema s base f = record {
      within = omega (arith, c.if-guarded-width.false, c.guarded_on-guarded.ensures.value, width);
      balanced = omega (
        arith,
        c.if-from-given.false,
        c.from-in-loop-number.ensures,
        c.guarded_on-guarded.ensures.value,
        c.from-lower.ensures,
        c.part.ensures.value,
        c.from.ensures,
        c.part-in-loop-number.ensures.value,
        gl,
        gr,
        al,
        ar,
      );
      still = still;
    } in λ g less.
    elim (cases_eq g f) [
      | inl same ↦ subst (λ (x : ℕ). BalancesOn schema s base x) (sym same) here
      | inr apart ↦ c.loop-number.invariant g (omega (arith, less, apart))
    ]
