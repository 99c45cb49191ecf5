use Rattle.std.proofs.Common.{arith}
use Rattle.world_steps.specs.View.{trace_of}
use Rattle.reaching_steps.proofs.Owning.{settled_near}
use Rattle.reaching_steps.proofs.shares.moved_at.Goals as goal

pub returns-clause-value : goal.returns-clause-value
returns-clause-value c =
    let is = c.in_ok-standing.ensures.value in
    omega (arith, c.apart.ensures.value, is.raised, is.lowered)

pub returns-clause-near : goal.returns-clause-near
returns-clause-near c =
    let w = c.args.trial.now in
    let is = c.in_ok-standing.ensures.value in
    let near = settled_near w.schema c.standing_at.ensures.limits (trace_of w) c.standing_at.ensures.sound c.args.site.0 c.args.field.0
    c.requires.in_schema in
    (omega (arith, c.apart.ensures.least, is.raised, is.lowered, near), omega (arith, c.apart.ensures.least, is.raised, is.lowered, near))
