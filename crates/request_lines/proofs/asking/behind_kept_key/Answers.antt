use Rattle.std.proofs.Common.{codes}
use Rattle.request_lines.proofs.Questions.{begins_with, begins_not}
use Rattle.request_lines.proofs.asking.behind_kept_key.Goals as goal

pub returns-in-Some : goal.returns-in-Some
returns-in-Some c = record {
  rest = begins_with c.args.front.now c.in-Some.rest.now (codes "kept key ") c.in-Some.ensures.cases.0 c.in-Some.ensures.cases.1;
}

pub returns-in-None : goal.returns-in-None
returns-in-None c = record { rest = begins_not c.args.front.now (codes "kept key ") c.in-None.ensures.cases }
