use Rattle.std.proofs.Common.{◌++◌}
use Rattle.site_trace.proofs.Sides.{between_by}
use Rattle.site_trace.proofs.remark.between.Goals as goal

pub returns-in-Some : goal.returns-in-Some
returns-in-Some c = record {
  inner = between_by c.args.line.now c.in-Some.rest.now c.args.front.now c.args.end.now c.before-in-Some.result c.in-Some.ensures.rest
      c.before-in-Some.ensures.front;
}

pub returns-in-None : goal.returns-in-None
returns-in-None c = record { inner = λ inner. c.in-None.ensures.rest (inner ++ c.args.end.now) }
