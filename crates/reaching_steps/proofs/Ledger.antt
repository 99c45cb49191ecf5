-- What a site has given: nothing to itself, and to no other more than a ledger holds.
use Rattle.std.proofs.Common.{Some, ◌≡◌, ℕ, ◌+◌, ◌≤◌, Bool, true, false, ◌&&◌, cond, List, ◌∷◌, refl, inl, inr, arith, eqb, None}
use Rattle.std.proofs.lemmas.Bool.{cases_Bool, eqb-true, ltb-false, and_parts}
use Rattle.field_bounds.specs.declared.kind.Kind.{Kind}
use Rattle.field_bounds.specs.declared.entry.Command.{Command}
use Rattle.field_bounds.specs.declared.entry.Command.TheVariants.{Begin, Escrow, Commit, Abort, Give, Spare, Tighten, Accept}
use Rattle.field_bounds.specs.declared.entry.Reply.TheVariants.{Unsure}
use Rattle.field_bounds.specs.declared.entry.Entry.{Entry}
use Rattle.field_bounds.specs.Kind.{same_kind}
use Rattle.field_bounds.specs.Schema.{SchemaValue}
use Rattle.field_bounds.specs.declared.effect.Effect.{Effect}
use Rattle.field_bounds.specs.declared.effect.Effect.TheVariants.{Commits, Gives, Accepts}
use Rattle.field_bounds.specs.Effects.{Base, after, effects, total_given, fresh}
use Rattle.field_bounds.specs.declared.id.SiteNo.{SiteNo}
use Rattle.field_bounds.specs.declared.id.FieldNo.{FieldNo}
use Rattle.field_bounds.specs.Owed.{Place, place, refusals, first, answer, spare_of, max_total, IsRun}
use Rattle.field_bounds.proofs.Lawful.{same_kind-true}
use Rattle.field_bounds.proofs.Refused.{none_holds}
use Rattle.field_bounds.proofs.Doubt.{run_holds}

-- of each field and kind: nothing to the site itself, and to no site above the greatest total
pub record IsFair (base : Base) (s : ℕ) (es : List Effect) : Type 0 where
  pub itself : (f : ℕ) (k : Kind) → total_given base s f k es ≡ 0
  pub within : (to f : ℕ) (k : Kind) → total_given base to f k es ≤ max_total

either : (base : Base) (s : ℕ) (kept : Bool) (more es : List Effect) → IsFair base s more → IsFair base s es
    → IsFair base s (cond kept more es)
either base s true more es m l = m
either base s false more es m l = l

more_within : (base : Base) (es : List Effect) (to : SiteNo) (field : FieldNo) (f x : ℕ) (kind k : Kind) (amount : ℕ)
    → total_given base to.0 field.0 kind es + amount ≤ max_total → total_given base x f k es ≤ max_total
    → total_given base x f k (Gives (Some to) field kind amount ∷ es) ≤ max_total
more_within base es to field f x kind k amount enough before =
    elim (cases_Bool (eqb field.0 f && same_kind kind k && eqb to.0 x)) [
      | inl on ↦
          let parts = and_parts (eqb field.0 f && same_kind kind k) (eqb to.0 x) on in
          let both = and_parts (eqb field.0 f) (same_kind kind k) parts.0 in
          let same_field : field.0 ≡ f = eqb-true _ _ both.0 in
          let kinds : kind ≡ k = same_kind-true _ _ both.1 in
          let same_site : to.0 ≡ x = eqb-true _ _ parts.1 in
          let same : total_given base to.0 field.0 kind es ≡ total_given base x f k es = cc in
          let counted : cond (eqb field.0 f && same_kind kind k && eqb to.0 x) amount 0 ≡ amount = rw on refl in
          omega (arith, counted, same, enough)
      | inr off ↦
          let none : cond (eqb field.0 f && same_kind kind k && eqb to.0 x) amount 0 ≡ 0 = rw off refl in
          omega (arith, none, before)
    ]

uncounted : (a b : Bool) (n : ℕ) → b ≡ false → cond (a && b) n 0 ≡ 0
uncounted true b n h = rw h refl
uncounted false b n h = refl

fair_give : (base : Base) (s : ℕ) (es : List Effect) (to : SiteNo) (field : FieldNo) (kind : Kind) (amount : ℕ) → eqb to.0 s ≡ false
    → total_given base to.0 field.0 kind es + amount ≤ max_total → IsFair base s es
    → IsFair base s (Gives (Some to) field kind amount ∷ es)
fair_give base s es to field kind amount apart enough l =
    record {
      itself = λ f k. omega (arith, uncounted (eqb field.0 f && same_kind kind k) (eqb to.0 s) amount apart, l.itself f k);
      within = λ x f k. more_within base es to field f x kind k amount enough (l.within x f k);
    }

fair_tighten : (base : Base) (s : ℕ) (es : List Effect) (field : FieldNo) (kind : Kind) (amount : ℕ) → IsFair base s es
    → IsFair base s (Gives None field kind amount ∷ es)
fair_tighten base s es field kind amount l =
    record {
      itself = λ f k. omega (arith, uncounted (eqb field.0 f && same_kind kind k) false amount refl, l.itself f k);
      within = λ x f k. omega (arith, uncounted (eqb field.0 f && same_kind kind k) false amount refl, l.within x f k);
    }

carried : (at : Place) (c : Command) → first (refusals at c) ≡ None → (kept : Bool) → IsFair at.base at.site at.effects
    → IsFair at.base at.site (after at.base kept c (answer at c) at.effects)
    × IsFair at.base at.site (after at.base kept c Unsure at.effects)
carried at Begin h kept l = (record { itself = l.itself; within = l.within }, l)
carried at (Escrow txn field change) h kept l = (record { itself = l.itself; within = l.within }, l)
carried at (Commit txn) h kept l =
    let made : IsFair at.base at.site (Commits txn ∷ at.effects) = record { itself = l.itself; within = l.within } in
    (made, either at.base at.site kept _ _ made l)
carried at (Abort txn) h kept l = (record { itself = l.itself; within = l.within }, l)
carried at (Give to field kind amount) h kept l =
    let none = (none_holds (refusals at (Give to field kind amount)) h).1 in
    let apart : eqb to.0 at.site ≡ false = none.1.1.1.1.1.0 in
    let made = fair_give at.base at.site at.effects to field kind amount apart (ltb-false _ _ none.1.1.1.1.1.1.0) l in
    (made, either at.base at.site kept _ _ made l)
carried at (Spare to field kind want) h kept l =
    let none = (none_holds (refusals at (Spare to field kind want)) h).1 in
    let apart : eqb to.0 at.site ≡ false = none.1.1.1.1.1.0 in
    let made = fair_give at.base at.site at.effects to field kind (spare_of at field kind want) apart
    (ltb-false _ _ none.1.1.1.1.1.1.0) l in
    (made, either at.base at.site kept _ _ made l)
carried at (Tighten field kind amount) h kept l =
    let made = fair_tighten at.base at.site at.effects field kind amount l in
    (made, either at.base at.site kept _ _ made l)
carried at (Accept told) h kept l =
    let made : IsFair at.base at.site (Accepts told.from told.field told.kind told.total ∷ at.effects) =
    record { itself = l.itself; within = l.within } in
    (made, either at.base at.site kept _ _ made l)
carried at c h kept l = (l, l)

pub run_is_fair : (schema : SchemaValue) (s : ℕ) (o : List Entry) → IsRun schema s (fresh schema s) o
    → IsFair (fresh schema s) s (effects (fresh schema s) false o)
run_is_fair schema s o run =
    run_holds schema s (fresh schema s) (λ epoch count es. IsFair (fresh schema s) s es)
    (record {
      start = record { itself = λ f k. refl; within = λ to f k. omega arith };
      stop = λ n count m es later l. record { itself = l.itself; within = l.within };
      carried = λ o c h kept l. carried (place schema s (fresh schema s) o) c h kept l;
    }) o run false
