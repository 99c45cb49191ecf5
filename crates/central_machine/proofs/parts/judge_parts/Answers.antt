use Rattle.std.proofs.Common.{◌∙◌, sym, arith}
use Rattle.central_machine.proofs.Told_first.{none_found, one_found, inside}
use Rattle.central_machine.proofs.parts.judge_parts.Goals as goal

pub overflow_add-result : goal.overflow_add-result
overflow_add-result g c =
    let below = inside c.args.schema.now c.args.entries.now c.in_ok-told.told c.in_ok-told.tested c.in_ok-told.ensures.statements
    c.in_ok-told.ensures.totals c.in-Some.fault (sym c.earlier.ensures ∙ c.in-Some.is) in
    omega (arith, below, c.length_of-few.ensures.few)

pub returns-in-Some : goal.returns-in-Some
returns-in-Some g c = record {
  verdict = one_found c.args.schema.now c.args.entries.now c.in_ok-told.told c.in_ok-told.tested c.in_ok-told.ensures.statements
      c.in_ok-told.ensures.totals c.in-Some.fault (sym c.earlier.ensures ∙ c.in-Some.is);
}

pub returns-in-None : goal.returns-in-None
returns-in-None g c = record {
  verdict = none_found c.args.schema.now c.args.entries.now c.in_ok-told.told c.in_ok-told.tested c.in_ok-told.ensures.statements
      c.in_ok-told.ensures.totals (sym c.earlier.ensures ∙ c.in-None.is);
}
