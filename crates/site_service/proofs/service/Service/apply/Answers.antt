use Rattle.std.proofs.Common.{ap, subst}
use Rattle.std.proofs.lemmas.Result.{on_ok_weaker, on_err_weaker}
use Rattle.site_service.specs.Service.{ServiceValue, Grows}
use Rattle.site_service.proofs.Links.{sound_grows, log_kept, let_go_kept, waits_same, has_applied}
use Rattle.site_step.specs.Shortening.{held_of}
use Rattle.site_service.specs.Answers.{whole_of}
use Rattle.site_service.proofs.Index.{index_grows}
use Rattle.site_service.proofs.Held.{held_goes, grows_whole}
use Rattle.site_service.proofs.service.Service.apply.Goals as goal

pub invariant_of-self : goal.invariant_of-self
invariant_of-self g c =
    let s = c.self.inside in
    let grows = c.carry_out.ensures.grows c.self.invariant.linked.stands in
    sound_grows s.site s.keys.last s.told s.lines s.waiting.items (g.F.LogFile.bytes s.log) (g.F.LogFile.safe s.log) (g.F.LogFile.least s.log) s.settled
    s.lost s.kept s.keys.lines c.self.invariant c.carry_out.new.site s.keys.last s.lines c.carry_out.new.out.items s.kept s.keys.lines grows
    (index_grows s.kept (held_of s.site) (held_of c.carry_out.new.site) grows.added c.self.invariant.index
    (held_goes s.site c.carry_out.new.site c.self.invariant.linked.stands grows)) (λ notes behind. behind)

pub returns-clause-ok : goal.returns-clause-ok
returns-clause-ok g c =
    let s = c.self.inside in
    on_ok_weaker c.carry_out.result
    (λ told. has_applied s.site s.keys.last s.told s.lines s.waiting.items (g.F.LogFile.bytes s.log) (g.F.LogFile.safe s.log) (g.F.LogFile.least s.log) s.settled s.lost c.args.self.now
    c.self.view_is c.args.command c.carry_out.new.site c.carry_out.new.out.items
    (c.carry_out.ensures.grows c.self.invariant.linked.stands).gone told) c.carry_out.ensures.ok

pub returns-clause-err : goal.returns-clause-err
returns-clause-err g c =
    let s = c.self.inside in
    on_err_weaker c.carry_out.result
    (λ same. waits_same s.site s.keys.last s.told s.lines s.waiting.items (g.F.LogFile.bytes s.log) (g.F.LogFile.safe s.log) (g.F.LogFile.least s.log) s.settled s.lost c.args.self.now
    c.self.view_is c.carry_out.new.out.items same) c.carry_out.ensures.err

pub returns-clause-log : goal.returns-clause-log
returns-clause-log g c =
    let s = c.self.inside in
    log_kept s.site s.keys.last s.told s.lines s.waiting.items (g.F.LogFile.bytes s.log) (g.F.LogFile.safe s.log) (g.F.LogFile.least s.log) s.settled s.lost c.args.self.now c.self.view_is
    c.carry_out.new.site s.keys.last s.lines c.carry_out.new.out.items

pub returns-clause-last : goal.returns-clause-last
returns-clause-last g c = ap (λ (v : ServiceValue). v.served.last) c.self.view_is

pub returns-clause-grows : goal.returns-clause-grows
returns-clause-grows g c =
    let s = c.self.inside in
    subst (λ (v : ServiceValue). Grows v.served.site (whole_of c.carry_out.new.site)) c.self.view_is
    (grows_whole s.site c.carry_out.new.site (c.carry_out.ensures.grows c.self.invariant.linked.stands))

pub returns-clause-let_go : goal.returns-clause-let_go
returns-clause-let_go g c =
    let s = c.self.inside in
    let_go_kept s.site s.keys.last s.told s.lines s.waiting.items (g.F.LogFile.bytes s.log) (g.F.LogFile.safe s.log) (g.F.LogFile.least s.log) s.settled s.lost c.args.self.now c.self.view_is
    c.carry_out.new.site s.keys.last s.lines (c.carry_out.ensures.grows c.self.invariant.linked.stands).gone
