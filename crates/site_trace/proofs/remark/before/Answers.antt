use Rattle.site_trace.proofs.Sides.{ends_with, ends_not}
use Rattle.site_trace.proofs.remark.before.Goals as goal

pub returns-in-Some : goal.returns-in-Some
returns-in-Some c = record {
  front = ends_with c.args.line.now c.in-Some.front.now c.args.word.now c.in-Some.ensures.cases.0 c.in-Some.ensures.cases.1;
}

pub returns-in-None : goal.returns-in-None
returns-in-None c = record { front = ends_not c.args.line.now c.args.word.now c.in-None.ensures.cases }
