use Rattle.std.proofs.Common.{[], ◌∷◌, ◌∙◌, ap, rules}
use Rattle.world_steps.specs.View.{WorldValue}
use Rattle.reaching_steps.specs.Taken.{with_steps}
use Rattle.reaching_steps.proofs.Fronts.{took_none, took_all}
use Rattle.reaching_steps.proofs.Table.{renewed}
use Rattle.reaching_steps.proofs.trial.Trial.step.Goals as goal

pub invariant_of-self-2 : goal.invariant_of-self-2
invariant_of-self-2 c =
    renewed c.self.inside.world _ c.self.inside.field.0 c.args.step.now c.in_ok-reply.reply c.self.inside.told.items _
    c.self.inside.is_whole c.in_ok-reply.ensures.answers
    (ap (λ (x : WorldValue). x.schema) c.in_ok-reply.ensures.steps) c.in_ok-renew.ensures.renewed c.self.invariant

pub returns-in_err-reply-clause-front : goal.returns-in_err-reply-clause-front
returns-in_err-reply-clause-front c =
    let same = c.in_err-reply.ensures.err ∙ c.self.view_is in
    rw same (search (rules, took_none))

pub returns-in_err-renew-clause-front : goal.returns-in_err-renew-clause-front
returns-in_err-renew-clause-front c =
    let all = c.in_ok-reply.ensures.steps ∙ ap (λ (w : WorldValue). with_steps w (c.args.step.now ∷ [])) c.self.view_is in
    search (rules, took_all c.args.self.now c.step.new.self (c.args.step.now ∷ []) all)
