use Rattle.std.proofs.lemmas.Grind.{common_steps}
use Rattle.std.proofs.Common.{◌∙◌, sym, arith, ◌≤◌, length}
use Rattle.kept_records.proofs.SummaryLoops.{rises_few}
use Rattle.kept_records.proofs.summary_reading.rise.Goals as goal

pub returns : goal.returns
returns c =
    let few : length c.loop-rest.rest.now ≤ 1 = omega arith in
    sym (rises_few c.loop-rest.rest.now few) ∙ c.loop-rest.invariant

pub returns-then-not-is_before : goal.returns-then-not-is_before
returns-then-not-is_before c = grind (arith, common_steps)

pub loop-rest-preserved : goal.loop-rest-preserved
loop-rest-preserved c = grind (arith, common_steps)
