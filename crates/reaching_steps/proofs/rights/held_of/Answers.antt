use Rattle.std.proofs.Common.{◌∙◌, arith}
use Rattle.field_bounds.specs.declared.kind.Kind.TheVariants.{Lower, Raise}
use Rattle.std.specs.Prelude.{None}
use Rattle.reaching_steps.specs.FieldHoldings.{is_of}
use Rattle.reaching_steps.proofs.Standings.{held_same}
use Rattle.reaching_steps.proofs.Owning.{held_fits}
use Rattle.reaching_steps.proofs.rights.held_of.Goals as goal

pub returns-in-Lower : goal.returns-in-Lower
returns-in-Lower c = record {
  held = λ f es was.
      let same = held_same (is_of None) Lower c.deref.ensures.value in
      rw c.in-Lower.is (c.held_by-lower.ensures.lower (omega (arith, same, (held_fits f c.args.standing.now es was).0)) ∙ same);
}

pub returns-in-Raise : goal.returns-in-Raise
returns-in-Raise c = record {
  held = λ f es was.
      let same = held_same (is_of None) Raise c.deref.ensures.value in
      rw c.in-Raise.is (c.held_by-lower.ensures.raise (omega (arith, same, (held_fits f c.args.standing.now es was).1)) ∙ same);
}
