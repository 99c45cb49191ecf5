use Rattle.site_step.proofs.Calls.{grew, refuses}
use Rattle.site_step.proofs.site.Site.refuse.Goals as goal

pub invariant_of-self-2 : goal.invariant_of-self-2
invariant_of-self-2 g c = (refuses c.self.invariant c.self.view_is c.args.command c.args.refusal c.requires.refused
    (grew c.push_reserved.ensures.items c.in_ok-reserve.ensures.items)).sound

pub returns-clause-ok : goal.returns-clause-ok
returns-clause-ok g c = (refuses c.self.invariant c.self.view_is c.args.command c.args.refusal c.requires.refused
    (grew c.push_reserved.ensures.items c.in_ok-reserve.ensures.items)).applies
