use Rattle.std.proofs.Common.{rules}
use Rattle.reaching_steps.specs.Reach.{passes_on, over_sites}
use Rattle.reaching_steps.proofs.Growing.{grew_over}
use Rattle.reaching_steps.proofs.Fronts.{took_over}
use Rattle.reaching_steps.proofs.steps.pass_all.Goals as goal

pub loop-from-preserved : goal.loop-from-preserved
loop-from-preserved c =
    grew_over (λ schema from. over_sites c.args.sites (λ to. passes_on schema c.args.named.0 c.args.field.0 from to))
    c.loop-from.from c.loop-from.invariant c.in_ok-pass_from.ensures.grew

pub returns-in_err-pass_from : goal.returns-in_err-pass_from
returns-in_err-pass_from c =
    let t = took_over (λ schema from. over_sites c.args.sites (λ to. passes_on schema c.args.named.0 c.args.field.0 from to))
    c.loop-from.from c.args.sites c.loop-from-test.true c.loop-from.invariant c.in_err-pass_from.ensures.grew in
    search (rules, t)
