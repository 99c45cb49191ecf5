use Rattle.site_step.proofs.Calls.{grew, begin_is_new, begin_has_room, begins}
use Rattle.site_step.proofs.site.Site.begin.Goals as goal

pub begin-requires-clause-closed : goal.begin-requires-clause-closed
begin-requires-clause-closed g c = begin_is_new c.self.invariant c.self.view_is c.requires.unrefused

pub begin-requires-clause-room : goal.begin-requires-clause-room
begin-requires-clause-room g c = begin_has_room c.self.invariant c.self.view_is c.requires.unrefused

pub invariant_of-self-2 : goal.invariant_of-self-2
invariant_of-self-2 g c = (begins c.self.invariant c.self.view_is c.requires.unrefused c.in_ok-begin.ensures.ok
    (grew c.push_reserved.ensures.items c.in_ok-reserve.ensures.items)).sound

pub returns-clause-ok : goal.returns-clause-ok
returns-clause-ok g c = (begins c.self.invariant c.self.view_is c.requires.unrefused c.in_ok-begin.ensures.ok
    (grew c.push_reserved.ensures.items c.in_ok-reserve.ensures.items)).applies
