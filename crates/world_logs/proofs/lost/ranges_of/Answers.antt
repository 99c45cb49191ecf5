use Rattle.std.proofs.Common.{◌≡◌, ◌<◌, ◌++◌, ◌∷◌, [], refl, length, sym, ◌∙◌, inl, inr, arith}
use Rattle.std.proofs.lemmas.Bool.{cases_eq}
use Rattle.std.proofs.lemmas.Grind.{common_steps}
use Rattle.world_logs.proofs.Lists.{slice_get_before, slice_get_last}
use Rattle.world_logs.proofs.Known.{none_goes}
use Rattle.world_logs.proofs.lost.ranges_of.Goals as goal

pub returns-in-None-clause-fault : goal.returns-in-None-clause-fault
returns-in-None-clause-fault c = λ known is.
    let n = c.loop-number.number in
    let fields = c.fields-number-end.ensures in
    let field_in : n < length c.args.schema.now.fields = omega (arith, c.loop-number-test.true, fields.value) in
    let more = c.in-None.ensures.none known is in
    record {
      field_in = field_in;
      more = more;
      before = λ g less. c.loop-number.invariant.room known is g less;
      none = λ logs may. none_goes c.args.schema.now known fields.limits n field_in more logs may;
    }

pub loop-number-preserved : goal.loop-number-preserved
loop-number-preserved c =
    let schema = c.args.schema.now in
    let old = c.loop-number.ranges.items in
    let x = c.in-Some.range in
    let n = c.loop-number.number in
    let was = c.loop-number.invariant in
    let grown : c.push.new.self.items ≡ old ++ x ∷ [] = c.in_ok-push-in-Some.ensures.items in
    record {
      count = grind (arith, common_steps);
      each = λ known is f below.
          rw grown (elim (cases_eq f n) [
            | inl same ↦ slice_get_last old x f (was.count ∙ sym same) ∙ rw (c.in-Some.ensures.range known is, same) refl
            | inr apart ↦
                let less : f < n = omega (arith, below, apart) in
                slice_get_before old x f (omega (arith, less, was.count)) ∙ was.each known is f less
          ]);
      room = λ known is f below.
          elim (cases_eq f n) [
            | inl same ↦ rw same (c.in-Some.ensures.room known is)
            | inr apart ↦ was.room known is f (omega (arith, below, apart))
          ];
    }
