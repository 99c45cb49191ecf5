use Rattle.std.proofs.Common.{sym, subst, ◌∙◌, arith, rules}
use Rattle.std.proofs.lemmas.List.{length_push, length-reverse}
use Rattle.central_machine.specs.FrontTotals.{AreRunning}
use Rattle.central_machine.proofs.Fed.{back_more, stays_legal, first_bad}
use Rattle.central_machine.proofs.front_judge.FrontJudge.next.Goals as goal

pub returns-in-Ok-None-clause-legal : goal.returns-in-Ok-None-clause-legal
returns-in-Ok-None-clause-legal c = λ entries was none.
    stays_legal c.args.schema.now entries c.args.entry.now was.legal c.in-Ok-None.field-0 (c.in-Ok-None.ensures.rule _ was.totals)
    c.in-Ok-None.field-0-is

pub returns-in-Ok-None-clause-taken : goal.returns-in-Ok-None-clause-taken
returns-in-Ok-None-clause-taken c = λ entries was none. record {
  legal = stays_legal c.args.schema.now entries c.args.entry.now was.legal c.in-Ok-None.field-0 (c.in-Ok-None.ensures.rule _ was.totals)
      c.in-Ok-None.field-0-is;
  count = omega (arith, was.count, length_push entries c.args.entry.now);
  totals = subst (λ t. AreRunning c.args.schema.now t c.take_in.new.self) (sym (back_more entries c.args.entry.now))
      (c.in-Ok-None.ensures.totals _ (omega (arith, c.if-self-ge-MOST.false, was.count, length-reverse entries)) was.totals was.legal
      c.in-Ok-None.field-0-is);
}

pub returns-in-Ok-Some-clause-illegal : goal.returns-in-Ok-Some-clause-illegal
returns-in-Ok-Some-clause-illegal c = λ entries rule was some.
    first_bad c.args.schema.now entries c.args.entry.now was.legal c.in-Ok-Some.field-0 (c.in-Ok-Some.ensures.rule _ was.totals) rule
    (c.in-Ok-Some.field-0-is ∙ some)

pub returns-in-Err-clause-legal : goal.returns-in-Err-clause-legal
returns-in-Err-clause-legal c = search rules

pub returns-in-Err-clause-taken : goal.returns-in-Err-clause-taken
returns-in-Err-clause-taken c = search rules
