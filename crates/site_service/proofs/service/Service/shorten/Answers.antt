use Rattle.std.proofs.Common.{OnOk, OnErr, sym, subst}
use Rattle.site_step.specs.Shortening.{CanGo}
use Rattle.site_service.specs.Answers.{held_in}
use Rattle.site_service.specs.Service.{ServiceValue}
use Rattle.site_service.specs.Shortening.{MayLetGo, LeavesEither}
use Rattle.site_service.proofs.service.Service.shorten.Goals as goal

pub returns-clause-let_go : goal.returns-clause-let_go
returns-clause-let_go g c =
    let can = subst (λ (v : ServiceValue). CanGo (held_in v.served) c.args.keep c.in-Ok-Some.plan.gone) c.self.view_is
    (rw c.in-Ok-Some.field-0-is at c.in-Ok-Some.ensures.can) in
    subst (λ (v : ServiceValue). OnOk c.replace_by.result (MayLetGo c.args.keep v.served c.replace_by.new.self.served)) c.shorter.ensures.same
    (c.replace_by.ensures.let_go c.args.keep
    (subst (λ (v : ServiceValue). CanGo (held_in v.served) c.args.keep c.in-Ok-Some.plan.gone) (sym c.shorter.ensures.same) can))

pub returns-clause-safe : goal.returns-clause-safe
returns-clause-safe g c =
    let can = subst (λ (v : ServiceValue). CanGo (held_in v.served) c.args.keep c.in-Ok-Some.plan.gone) c.self.view_is
    (rw c.in-Ok-Some.field-0-is at c.in-Ok-Some.ensures.can) in
    subst (λ (v : ServiceValue). OnErr c.replace_by.result (LeavesEither c.args.keep v.served c.replace_by.new.self.safe)) c.shorter.ensures.same
    (c.replace_by.ensures.safe c.args.keep
    (subst (λ (v : ServiceValue). CanGo (held_in v.served) c.args.keep c.in-Ok-Some.plan.gone) (sym c.shorter.ensures.same) can))
