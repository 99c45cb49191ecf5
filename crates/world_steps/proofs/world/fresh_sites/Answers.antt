use Rattle.std.proofs.Common.{◌≡◌, ◌++◌, ap, sym, subst, ◌∙◌, List, [], ◌∷◌, length, length-append, arith}
use Rattle.field_bounds.specs.Schema.{SchemaValue}
use Rattle.site_step.specs.Site.{SiteValue}
use Rattle.world_steps.specs.Standing.{Follows, AllFollow}
use Rattle.world_steps.proofs.Stand.{all_none, all_fresh}
use Rattle.world_steps.proofs.world.fresh_sites.Goals as goal

pub loop-number-init : goal.loop-number-init
loop-number-init c = (
  ap (λ (l : List SiteValue). length l) c.new-sites.ensures.items,
  subst (λ (l : List SiteValue). AllFollow c.args.schema.now [] 0 l) (sym c.new-sites.ensures.items) (all_none c.args.schema.now),
)

pub loop-number-preserved : goal.loop-number-preserved
loop-number-preserved c =
    let sites : List SiteValue = c.loop-number.sites.items in
    let made : SiteValue = c.in_ok-fresh_site.field-0 in
    let stands : Follows c.args.schema.now c.loop-number.number [] 0 made =
    subst (λ (x : SchemaValue). Follows x c.loop-number.number [] 0 made) c.in_ok-copy.ensures.equal c.in_ok-fresh_site.ensures.stands
    in
    let items : c.push.new.self.items ≡ sites ++ made ∷ [] = c.in_ok-push.ensures.items in (
      ap (λ (l : List SiteValue). length l) items ∙ omega (arith, length-append sites (made ∷ []), c.loop-number.invariant.0),
      subst (λ (l : List SiteValue). AllFollow c.args.schema.now [] 0 l) (sym items)
          (all_fresh c.args.schema.now sites c.loop-number.number made (sym c.loop-number.invariant.0) c.loop-number.invariant.1 stands),
    )
