use Rattle.std.proofs.Common.{sym, ◌∙◌}
use Rattle.reaching_steps.proofs.FirstNumber.{here_is}
use Rattle.reaching_steps.proofs.numbering.number_of.Goals as goal

pub returns-then-same_statement : goal.returns-then-same_statement
returns-then-same_statement c =
    record {
      value = here_is c.args.statement.now c.args.told.now c.loop-i.i _ c.loop-i-test.true
          (sym c.same_statement.ensures.value ∙ c.if-same_statement.true) c.loop-i.invariant;
    }
