use Rattle.std.proofs.Common.{◌≡◌, ◌<◌, ℕ, get_or, length, sym, ap, subst, ◌∙◌, arith}
use Rattle.field_bounds.specs.Effects.{fresh}
use Rattle.field_bounds.specs.Owed.{Place, place, shares_of}
use Rattle.field_bounds.specs.Central.{own}
use Rattle.world_steps.specs.View.{WorldValue, trace_of}
use Rattle.field_bounds.specs.Limits.{IsSchema}
use Rattle.world_steps.proofs.Stand.{here_at}
use Rattle.world_steps.proofs.Living.{one_store_seen}
use Rattle.world_steps.proofs.Shares.{shares_within}
use Rattle.world_steps.proofs.world.World.share.Goals as goal

pub returns : goal.returns
returns c =
    let f = c.self.inside in
    let w = c.self.invariant in
    let s = c.args.site.0 in
    let below : s < f.schema.sites = subst (λ (v : WorldValue). s < v.schema.sites) (sym c.self.view_is) c.requires.in_schema in
    let known : s < length f.sites.items = omega (arith, below, w.count) in
    let is : c.index.result.now ≡ get_or f.sites.items s c.index.result.now =
    subst (λ (n : ℕ). c.index.result.now ≡ get_or f.sites.items n c.index.result.now) c.from.ensures c.index.ensures in
    let at = here_at f.schema _ _ f.sites.items s c.index.result.now known is w.stand in
    let past = ap (λ (v : WorldValue). place v.schema s (fresh v.schema s) (own s (trace_of v))) c.self.view_is in
    let told = c.share.ensures.value ∙ ap (λ (p : Place). shares_of p c.args.field) (at ∙ past) in
    let good = subst (λ (v : WorldValue). IsSchema v.schema) c.self.view_is w.good in
    record {
      value = told;
      within = shares_within _ good _ (one_store_seen _ _ _ _ _ _ w c.self.view_is).sound s c.requires.in_schema c.args.field c.share.result
          told;
    }
