use Rattle.std.proofs.lemmas.Result.{on_ok_weaker}
use Rattle.script_input.specs.Streams.{AppendsPrefix}
use Rattle.site_service.specs.Service.{value_of, HoldsBack}
use Rattle.site_service.proofs.Links.{sound_waits, lets_out, holds_back, on_write}
use Rattle.site_service.proofs.service.Service.release.Goals as goal

pub invariant_of-self : goal.invariant_of-self
invariant_of-self g c =
    let s = c.self.inside in
    sound_waits s.site s.keys.last s.told s.lines s.waiting.items (g.F.LogFile.bytes s.log) (g.F.LogFile.safe s.log) (g.F.LogFile.least s.log) s.settled
    s.lost s.kept s.keys.lines c.self.invariant c.let_out.new.text.items

pub returns-clause-ok : goal.returns-clause-ok
returns-clause-ok g c =
    let s = c.self.inside in
    on_ok_weaker c.let_out.result
    (λ out. lets_out s.site s.keys.last s.told s.lines s.waiting.items (g.F.LogFile.bytes s.log) (g.F.LogFile.safe s.log) (g.F.LogFile.least s.log) s.settled s.lost c.args.self.now
    c.settle.new.self c.self.view_is c.in_ok-settle.ensures.waiting c.in_ok-settle.ensures.ok c.let_out.new.text.items c.let_out.ensures.none
    (g.W.Sink.bytes c.args.writer.now) (g.W.Sink.bytes c.let_out.new.writer) out) c.let_out.ensures.ok

pub returns-clause-err : goal.returns-clause-err
returns-clause-err g c =
    let s = c.self.inside in
    let before = g.W.Sink.bytes c.args.writer.now in
    let after = g.W.Sink.bytes c.let_out.new.writer in
    let left = value_of s.site s.keys.last s.told s.lines c.let_out.new.text.items (g.F.LogFile.bytes s.log) (g.F.LogFile.safe s.log) (g.F.LogFile.least s.log)
    s.settled s.lost in
    on_write c.let_out.result (AppendsPrefix before after s.waiting.items) (HoldsBack before after c.args.self.now left)
    (λ front. holds_back s.site s.keys.last s.told s.lines s.waiting.items (g.F.LogFile.bytes s.log) (g.F.LogFile.safe s.log) (g.F.LogFile.least s.log) s.settled s.lost c.args.self.now
    c.settle.new.self c.self.view_is c.in_ok-settle.ensures.waiting c.in_ok-settle.ensures.ok c.let_out.new.text.items c.let_out.ensures.none
    before after front) c.let_out.ensures.fault c.let_out.ensures.front
