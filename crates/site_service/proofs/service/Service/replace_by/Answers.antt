use Rattle.std.proofs.Common.{◌≡◌, Some, length, sym, ap, ◌∙◌, subst, inr}
use Rattle.file_medium.specs.Copies.{IsCopyOf}
use Rattle.site_step.specs.Shortening.{IsShortening, CanGo}
use Rattle.site_service.specs.Answers.{site_of, served_of, held_in}
use Rattle.site_service.specs.Service.{ServiceValue, IsSettled}
use Rattle.site_service.specs.Shortening.{MayLetGo, LeavesEither}
use Rattle.site_service.specs.Shorter.{IsShorter}
use Rattle.site_service.proofs.Links.{sound_lost, sound_put, settled_text}
use Rattle.site_service.proofs.Shortens.{sound_shorter, settled_shorter, has_let_go, leaves_either, left_by}
use Rattle.site_service.proofs.service.Service.replace_by.Goals as goal

pub invariant_of-self : goal.invariant_of-self
invariant_of-self g c =
    let s = c.self.inside in
    let is = subst (λ (v : ServiceValue). IsShortening (site_of v.served) c.args.plan) (sym c.self.view_is) c.requires.plan in
    let made = subst (λ (v : ServiceValue). IsShorter v.served c.args.plan c.args.shorter) (sym c.self.view_is) c.requires.is in
    let link = c.self.invariant.linked in
    let copied : c.as_slice.result.now ≡ c.args.shorter.text.items = c.as_slice.ensures.value in
    sound_shorter s.site s.keys.last s.told s.lines link.stands link.let_go c.args.plan is c.args.shorter made c.shorten.new.self c.shorten.ensures.same
    s.waiting.items (g.F.LogFile.bytes c.replace.new.self) (g.F.LogFile.safe c.replace.new.self) (g.F.LogFile.least c.replace.new.self)
    (length c.held.result.now) (ap length c.held.ensures.all) s.lost
    (subst (IsCopyOf (g.F.LogFile.bytes c.replace.new.self)) copied c.in-Ok.ensures.bytes)
    (subst (IsCopyOf (g.F.LogFile.safe c.replace.new.self)) copied c.in-Ok.ensures.safe)

pub returns-in-Ok-clause-ok : goal.returns-in-Ok-clause-ok
returns-in-Ok-clause-ok g c =
    let s = c.self.inside in
    let is = subst (λ (v : ServiceValue). IsShortening (site_of v.served) c.args.plan) (sym c.self.view_is) c.requires.plan in
    let made = subst (λ (v : ServiceValue). IsShorter v.served c.args.plan c.args.shorter) (sym c.self.view_is) c.requires.is in
    let link = c.self.invariant.linked in
    let copied : c.as_slice.result.now ≡ c.args.shorter.text.items = c.as_slice.ensures.value in
    settled_shorter s.site s.keys.last s.told s.lines link.stands link.let_go c.args.plan is c.args.shorter made c.shorten.new.self c.shorten.ensures.same
    s.waiting.items (g.F.LogFile.bytes c.replace.new.self) (g.F.LogFile.safe c.replace.new.self) (g.F.LogFile.least c.replace.new.self)
    (length c.held.result.now) (ap length c.held.ensures.all) s.lost
    (subst (IsCopyOf (g.F.LogFile.bytes c.replace.new.self)) copied c.in-Ok.ensures.bytes)
    (subst (IsCopyOf (g.F.LogFile.safe c.replace.new.self)) copied c.in-Ok.ensures.safe)
    (ap (λ (v : ServiceValue). v.lost) c.self.view_is ∙ c.requires.settled.sound)

pub returns-in-Ok-clause-let_go : goal.returns-in-Ok-clause-let_go
returns-in-Ok-clause-let_go g c = λ keep can.
    let s = c.self.inside in
    let may = subst (λ (v : ServiceValue). CanGo (held_in v.served) keep c.args.plan.gone) (sym c.self.view_is) can in
    let is = subst (λ (v : ServiceValue). IsShortening (site_of v.served) c.args.plan) (sym c.self.view_is) c.requires.plan in
    let made = subst (λ (v : ServiceValue). IsShorter v.served c.args.plan c.args.shorter) (sym c.self.view_is) c.requires.is in
    let link = c.self.invariant.linked in
    subst (λ (v : ServiceValue). MayLetGo keep v.served (served_of c.shorten.new.self c.args.shorter.keys.last (Some c.args.shorter.told) s.lines))
    c.self.view_is
    (inr (has_let_go s.site s.keys.last s.told s.lines link.stands link.let_go c.args.plan is c.args.shorter made keep may c.shorten.new.self
    c.shorten.ensures.same))

pub invariant_of-self-in-Err-Refused : goal.invariant_of-self-in-Err-Refused
invariant_of-self-in-Err-Refused g c =
    let s = c.self.inside in
    let same = c.in-Err-Refused.ensures.refused c.in-Err-Refused.field-0-is in
    sound_put s.site s.keys.last s.told s.lines s.waiting.items (g.F.LogFile.bytes s.log) (g.F.LogFile.safe s.log) (g.F.LogFile.least s.log) s.settled
    s.lost s.kept s.keys.lines c.self.invariant (g.F.LogFile.bytes c.replace.new.self) (g.F.LogFile.safe c.replace.new.self)
    (g.F.LogFile.least c.replace.new.self) same.0 same.1 same.2

pub invariant_of-self-in-Err-Failed : goal.invariant_of-self-in-Err-Failed
invariant_of-self-in-Err-Failed g c =
    let s = c.self.inside in
    sound_lost s.site s.keys.last s.told s.lines s.waiting.items (g.F.LogFile.bytes s.log) (g.F.LogFile.safe s.log) (g.F.LogFile.least s.log) s.settled
    s.lost s.kept s.keys.lines c.self.invariant (g.F.LogFile.least c.replace.new.self) (g.F.LogFile.bytes c.replace.new.self)
    (g.F.LogFile.safe c.replace.new.self)

pub returns-clause-safe : goal.returns-clause-safe
returns-clause-safe g c = λ keep can.
    let s = c.self.inside in
    let may = subst (λ (v : ServiceValue). CanGo (held_in v.served) keep c.args.plan.gone) (sym c.self.view_is) can in
    let is = subst (λ (v : ServiceValue). IsShortening (site_of v.served) c.args.plan) (sym c.self.view_is) c.requires.plan in
    let made = subst (λ (v : ServiceValue). IsShorter v.served c.args.plan c.args.shorter) (sym c.self.view_is) c.requires.is in
    let link = c.self.invariant.linked in
    let was = subst IsSettled (sym c.self.view_is) c.requires.settled in
    let copied : c.as_slice.result.now ≡ c.args.shorter.text.items = c.as_slice.ensures.value in
    subst (λ (v : ServiceValue). LeavesEither keep v.served (g.F.LogFile.safe c.replace.new.self)) c.self.view_is
    (leaves_either s.site s.keys.last s.told s.lines link.stands link.let_go c.args.plan is c.args.shorter made keep may (g.F.LogFile.safe s.log)
    (g.F.LogFile.safe c.replace.new.self) (settled_text _ was)
    (left_by (g.F.LogFile.safe s.log) (g.F.LogFile.safe c.replace.new.self) c.as_slice.result.now c.args.shorter.text.items copied
    (c.in-Err-Failed.ensures.failed c.in-Err-Failed.field-0-is)))
