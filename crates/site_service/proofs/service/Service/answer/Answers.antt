use Rattle.std.proofs.Common.{refl, subst}
use Rattle.std.proofs.lemmas.Result.{on_ok_weaker, on_err_weaker}
use Rattle.script_input.specs.Streams.{one_more}
use Rattle.site_service.specs.Answers.{served_of, whole_of, LeavesAnswer}
use Rattle.site_service.specs.Service.{ServiceValue, Grows}
use Rattle.site_service.proofs.Links.{sound_grows, log_kept, let_go_kept, waits_same, has_answered}
use Rattle.site_service.proofs.Held.{grows_whole}
use Rattle.site_service.proofs.service.Service.answer.Goals as goal

pub invariant_of-self : goal.invariant_of-self
invariant_of-self g c =
    let s = c.self.inside in
    sound_grows s.site s.keys.last s.told s.lines s.waiting.items (g.F.LogFile.bytes s.log) (g.F.LogFile.safe s.log) (g.F.LogFile.least s.log) s.settled
    s.lost s.kept s.keys.lines c.self.invariant c.answer_line.new.site c.answer_line.new.keys.last (one_more s.lines) c.answer_line.new.out.items
    c.answer_line.new.kept c.answer_line.new.keys.lines c.answer_line.ensures.grows c.answer_line.ensures.index c.answer_line.ensures.behind

pub returns-clause-ok : goal.returns-clause-ok
returns-clause-ok g c =
    let s = c.self.inside in
    on_ok_weaker c.answer_line.result
    (λ told. has_answered s.site s.keys.last s.told s.lines s.waiting.items (g.F.LogFile.bytes s.log) (g.F.LogFile.safe s.log) (g.F.LogFile.least s.log) s.settled s.lost c.args.self.now
    c.self.view_is c.args.line.now c.answer_line.new.site c.answer_line.new.keys.last (one_more s.lines) c.answer_line.new.out.items refl told)
    (c.answer_line.ensures.ok s.lines)

pub returns-clause-long : goal.returns-clause-long
returns-clause-long g c = λ whole long more.
    let s = c.self.inside in
    on_ok_weaker c.answer_line.result
    (λ told. has_answered s.site s.keys.last s.told s.lines s.waiting.items (g.F.LogFile.bytes s.log) (g.F.LogFile.safe s.log) (g.F.LogFile.least s.log) s.settled s.lost c.args.self.now
    c.self.view_is whole c.answer_line.new.site c.answer_line.new.keys.last (one_more s.lines) c.answer_line.new.out.items refl told)
    (c.answer_line.ensures.long s.lines whole long more)

pub returns-clause-err : goal.returns-clause-err
returns-clause-err g c =
    let s = c.self.inside in
    on_err_weaker c.answer_line.result
    (λ same. waits_same s.site s.keys.last s.told s.lines s.waiting.items (g.F.LogFile.bytes s.log) (g.F.LogFile.safe s.log) (g.F.LogFile.least s.log) s.settled s.lost c.args.self.now
    c.self.view_is c.answer_line.new.out.items same) c.answer_line.ensures.err

pub returns-clause-left : goal.returns-clause-left
returns-clause-left g c =
    let s = c.self.inside in
    on_err_weaker c.answer_line.result
    (λ left. subst (λ (v : ServiceValue). LeavesAnswer v.served c.args.line.now
    (served_of c.answer_line.new.site c.answer_line.new.keys.last s.told (one_more s.lines))) c.self.view_is left) (c.answer_line.ensures.left s.lines)

pub returns-clause-log : goal.returns-clause-log
returns-clause-log g c =
    let s = c.self.inside in
    log_kept s.site s.keys.last s.told s.lines s.waiting.items (g.F.LogFile.bytes s.log) (g.F.LogFile.safe s.log) (g.F.LogFile.least s.log) s.settled s.lost c.args.self.now c.self.view_is
    c.answer_line.new.site c.answer_line.new.keys.last (one_more s.lines) c.answer_line.new.out.items

pub returns-clause-grows : goal.returns-clause-grows
returns-clause-grows g c =
    let s = c.self.inside in
    subst (λ (v : ServiceValue). Grows v.served.site (whole_of c.answer_line.new.site)) c.self.view_is
    (grows_whole s.site c.answer_line.new.site c.answer_line.ensures.grows)

pub returns-clause-let_go : goal.returns-clause-let_go
returns-clause-let_go g c =
    let s = c.self.inside in
    let_go_kept s.site s.keys.last s.told s.lines s.waiting.items (g.F.LogFile.bytes s.log) (g.F.LogFile.safe s.log) (g.F.LogFile.least s.log) s.settled s.lost c.args.self.now c.self.view_is
    c.answer_line.new.site c.answer_line.new.keys.last (one_more s.lines) c.answer_line.ensures.grows.gone
