use Rattle.std.proofs.Common.{codes}
use Rattle.request_lines.proofs.Questions.{begins_with, begins_not}
use Rattle.request_lines.proofs.asking.behind_kept.Goals as goal

pub returns-in-Some : goal.returns-in-Some
returns-in-Some c = record {
  rest = begins_with c.args.line.now c.in-Some.rest.now (codes "kept ") c.in-Some.ensures.cases.0 c.in-Some.ensures.cases.1;
}

pub returns-in-None : goal.returns-in-None
returns-in-None c = record { rest = begins_not c.args.line.now (codes "kept ") c.in-None.ensures.cases }
