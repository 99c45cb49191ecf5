use Rattle.std.proofs.Common.{codes}
use Rattle.request_lines.proofs.LastWords.{ends_with}
use Rattle.request_lines.proofs.asking.before_since.Goals as goal

pub returns-in-Some : goal.returns-in-Some
returns-in-Some c = record {
  before = ends_with c.args.front.now c.in-Some.before.now (codes " since") c.in-Some.ensures.cases.0 c.in-Some.ensures.cases.1;
}
