use Rattle.std.proofs.Common.{◌≡◌, ◌<◌, ◌++◌, ◌∷◌, [], refl, sym, ◌∙◌, inl, inr, arith}
use Rattle.std.proofs.lemmas.Bool.{cases_eq}
use Rattle.std.proofs.lemmas.Grind.{common_steps}
use Rattle.world_logs.proofs.Lists.{slice_get_before, slice_get_last}
use Rattle.world_logs.proofs.check.states_of.Goals as goal

pub loop-number-preserved : goal.loop-number-preserved
loop-number-preserved c =
    let schema = c.args.schema.now in
    let old = c.loop-number.states.items in
    let x = c.state_of.result in
    let n = c.loop-number.number in
    let grown : c.push.new.self.items ≡ old ++ x ∷ [] = c.in_ok-push.ensures.items in
    record {
      count = grind (arith, common_steps);
      each = λ logs is f below.
          rw grown (elim (cases_eq f n) [
            | inl same ↦
                slice_get_last old x f (c.loop-number.invariant.count ∙ sym same) ∙ rw (c.state_of.ensures.state logs is, same) refl
            | inr apart ↦
                let less : f < n = omega (arith, below, apart) in
                slice_get_before old x f (omega (arith, less, c.loop-number.invariant.count)) ∙ c.loop-number.invariant.each logs is f less
          ]);
    }
