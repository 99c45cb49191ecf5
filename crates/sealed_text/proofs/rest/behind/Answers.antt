use Rattle.sealed_text.proofs.Cuts.{begins_with, begins_not}
use Rattle.sealed_text.proofs.rest.behind.Goals as goal

pub returns-in-Some : goal.returns-in-Some
returns-in-Some c = record {
  rest = begins_with c.args.bytes.now c.in-Some.rest.now c.args.line.now c.in-Some.ensures.cases.0 c.in-Some.ensures.cases.1;
}

pub returns-in-None : goal.returns-in-None
returns-in-None c = record { rest = begins_not c.args.bytes.now c.args.line.now c.in-None.ensures.cases }
