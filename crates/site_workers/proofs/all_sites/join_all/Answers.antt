use Rattle.std.proofs.Common.{sym, ◌∙◌}
use Rattle.site_workers.proofs.Teams.{joins_more, joined_all}
use Rattle.site_workers.proofs.all_sites.join_all.Goals as goal

pub loop-handle-preserved : goal.loop-handle-preserved
loop-handle-preserved g c = λ schema gate all first.
    joins_more g.G.Gate.turns schema gate all c.loop-handle.handles.items c.pop.new.self.items c.in-Some.handle
    c.loop-handle.answers.items c.push.new.self.items c.answer_of.result c.in-Some.ensures.items c.in_ok-push.ensures.items
    c.answer_of.ensures.made c.answer_of.ensures.refused (c.loop-handle.invariant schema gate all first)

pub returns-clause-answers : goal.returns-clause-answers
returns-clause-answers g c = λ schema gate all first.
    joined_all g.G.Gate.turns schema gate all c.loop-handle.handles.items c.loop-handle.answers.items
    (sym c.loop-handle.handles.ok.0 ∙ c.in_default.ensures.cases.0) (c.loop-handle.invariant schema gate all first)
