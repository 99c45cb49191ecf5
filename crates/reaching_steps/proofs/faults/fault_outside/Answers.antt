use Rattle.std.proofs.Common.{rules, ◌≡◌, ◌∙◌, ℕ, Bool, true, false, [], ◌∷◌, Option, ap}
use Rattle.std.proofs.Math.Facts.{to_z-of_z}
use Rattle.std.specs.Prelude.{ℤ, pos, ◌+ℤ◌, ◌-ℤ◌}
use mir.Syntax.{w64}
use mir.Val.{SFits}
use Rattle.field_bounds.specs.Schema.{SchemaValue}
use Rattle.field_bounds.specs.Parts.{field_at}
use Rattle.field_bounds.specs.Effects.{fresh}
use Rattle.field_bounds.specs.Owed.{place, interval_at}
use Rattle.field_bounds.specs.Central.{own}
use Rattle.world_steps.specs.View.{WorldValue, trace_of}
use Rattle.reaching_steps.specs.declared.fault.ReachFault.{ReachFault}
use Rattle.reaching_steps.specs.declared.fault.ReachFault.TheVariants.{Outside}
use Rattle.reaching_steps.specs.Reach.{first_fault, fault_if, lies_outside}
use Rattle.reaching_steps.proofs.Firsts.{outside_is}
use Rattle.reaching_steps.proofs.faults.fault_outside.Goals as goal

alone : (b : Bool) (x : Option ReachFault) (fault : ReachFault) → x ≡ fault_if b fault → x ≡ first_fault (fault_if b fault ∷ [])
alone true x fault h = h
alone false x fault h = h

read_so : (x : Option ReachFault) (floor ceiling low high target : ℤ) (lower raise : ℕ) → (floor +ℤ pos lower) ≡ low
    → (ceiling -ℤ pos raise) ≡ high
    → x ≡ fault_if (lies_outside (floor +ℤ pos lower, ceiling -ℤ pos raise) target) (Outside (floor +ℤ pos lower) (ceiling -ℤ pos raise))
    → x ≡ first_fault (fault_if (lies_outside (low, high) target) (Outside low high) ∷ [])
read_so x floor ceiling low high target lower raise low_is high_is told =
    alone (lies_outside (low, high) target) x (Outside low high)
    (outside_is x (floor +ℤ pos lower) (ceiling -ℤ pos raise) low high target low_is high_is told)

pub returns : goal.returns
returns c =
    let schema = c.args.trial.now.schema in
    let s = c.args.site.0 in
    let interval = interval_at (place schema s (fresh schema s) (own s (trace_of c.args.trial.now))) c.args.field in
    let is = c.bounds-floor.ensures.value in
    let same = c.schema.ensures.value ∙ ap (λ (x : WorldValue). x.schema) c.world.ensures.value in
    let floor : SFits w64 c.bounds-floor.result.0 = search rules in
    let ceiling : SFits w64 c.bounds-floor.result.1 = search rules in
    let told = rw (to_z-of_z floor, to_z-of_z ceiling, to_z-of_z c.ranges.target) at c.outside.ensures.value in
    let low : (c.bounds-floor.result.0 +ℤ pos c.in_ok-lower.lower) ≡ interval.0 =
    ap (λ (z : ℤ). z +ℤ pos c.in_ok-lower.lower)
    (ap (λ (b : ℤ × ℤ × ℤ). b.0) is ∙ ap (λ (x : SchemaValue). (field_at x c.args.field.0).floor) same)
    ∙ ap (λ (n : ℕ). (field_at schema c.args.field.0).floor +ℤ pos n) c.in_ok-lower.ensures.value in
    let high : (c.bounds-floor.result.1 -ℤ pos c.in_ok-raise.raise) ≡ interval.1 =
    ap (λ (z : ℤ). z -ℤ pos c.in_ok-raise.raise)
    (ap (λ (b : ℤ × ℤ × ℤ). b.1) is ∙ ap (λ (x : SchemaValue). (field_at x c.args.field.0).ceiling) same)
    ∙ ap (λ (n : ℕ). (field_at schema c.args.field.0).ceiling -ℤ pos n) c.in_ok-raise.ensures.value in
    record {
      value = read_so c.outside.result c.bounds-floor.result.0 c.bounds-floor.result.1 interval.0 interval.1 c.args.target
          c.in_ok-lower.lower c.in_ok-raise.raise low high told;
    }
