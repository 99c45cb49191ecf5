use Rattle.std.proofs.Common.{subst}
use Rattle.site_step.specs.Site.{SiteValue}
use Rattle.site_handle.specs.Session.{Answers}
use Rattle.site_handle.proofs.Calls.{sound_by, answers_by}
use Rattle.site_handle.proofs.session.Session.ask.Goals as goal

pub invariant_of-self-2 : goal.invariant_of-self-2
invariant_of-self-2 c =
    sound_by c.self.inside.site c.apply.new.self c.args.command c.in_ok-reply.reply c.self.invariant
    c.in_ok-reply.ensures.ok

pub returns-clause-ok : goal.returns-clause-ok
returns-clause-ok c =
    subst (λ (before : SiteValue). Answers before c.args.command c.in_ok-reply.reply c.apply.new.self) c.self.view_is
    (answers_by c.self.inside.site c.apply.new.self c.args.command c.in_ok-reply.reply c.self.invariant
    c.in_ok-reply.ensures.ok)
