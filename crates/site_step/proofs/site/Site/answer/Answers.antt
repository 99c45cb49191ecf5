use Rattle.site_step.proofs.Calls.{grew, can, answers}
use Rattle.site_step.proofs.site.Site.answer.Goals as goal

pub settle-requires : goal.settle-requires
settle-requires g c = record { can = can c.self.invariant c.self.view_is c.args.command c.requires.unrefused c.requires.carried }

pub invariant_of-self-2 : goal.invariant_of-self-2
invariant_of-self-2 g c =
    (answers c.self.invariant c.self.view_is c.args.command c.args.reply c.requires.unrefused c.requires.carried c.requires.silent
    c.requires.owed c.settle.ensures.settled
    (grew c.push_reserved.ensures.items c.in_ok-reserve.ensures.items)).sound

pub returns-clause-ok : goal.returns-clause-ok
returns-clause-ok g c =
    (answers c.self.invariant c.self.view_is c.args.command c.args.reply c.requires.unrefused c.requires.carried c.requires.silent
    c.requires.owed c.settle.ensures.settled
    (grew c.push_reserved.ensures.items c.in_ok-reserve.ensures.items)).applies
