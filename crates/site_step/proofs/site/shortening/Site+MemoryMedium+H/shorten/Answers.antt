use Rattle.std.proofs.Common.{◌++◌, refl, sym, ap, subst, ◌∙◌, arith}
use Rattle.site_step.specs.Site.{SiteValue}
use Rattle.site_step.specs.Shortening.{ShorteningValue, IsShortening}
use Rattle.site_step.proofs.Shortens.{shortened_so, same_but_gone, told_size}
use Rattle.site_step.proofs.site.shortening.Site+MemoryMedium+H.shorten.Goals as goal

pub invariant_of-self : goal.invariant_of-self
invariant_of-self g c =
    let i = c.self.inside in
    let p = c.plan.inside in
    let is = subst (λ (x : SiteValue). IsShortening x c.args.plan) (sym c.self.view_is) c.requires.plan in
    let held = ap (λ (x : ShorteningValue). x.held) c.plan.view_is in
    let gone = ap (λ (x : ShorteningValue). x.gone) c.plan.view_is in
    shortened_so _ _ _ _ c.self.invariant i.medium.bytes refl c.args.plan is c.len-self-inside.result c.joined-self-inside.result.items c.new.result.bytes
    (told_size c.len-self-inside.result p.held.items c.args.plan.held (omega (arith, c.len-self-inside.ensures, p.held.ok)) (omega (arith, c.len-self-inside.ensures, p.held.ok)) held)
    (c.joined-self-inside.ensures ∙ ap (λ l. i.gone.items ++ l) gone) (c.new.ensures.bytes ∙ held)

pub returns : goal.returns
returns g c =
    let i = c.self.inside in
    let is = subst (λ (x : SiteValue). IsShortening x c.args.plan) (sym c.self.view_is) c.requires.plan in
    let held = ap (λ (x : ShorteningValue). x.held) c.plan.view_is in
    let gone = ap (λ (x : ShorteningValue). x.gone) c.plan.view_is in
    record {
      same = same_but_gone _ _ _ _ c.self.invariant i.medium.bytes refl c.args.plan is c.joined-self-inside.result.items c.new.result.bytes
          (c.joined-self-inside.ensures ∙ ap (λ l. i.gone.items ++ l) gone) (c.new.ensures.bytes ∙ held)
          ∙ ap (λ (x : SiteValue). (let w : SiteValue = record x { gone = x.gone ++ c.args.plan.gone } in w)) c.self.view_is;
    }
