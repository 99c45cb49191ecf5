use Rattle.std.proofs.Common.{◌++◌, ℕ, map, sym, ap, ◌∙◌, add-one, ◌∷◌, []}
use Rattle.field_bounds.specs.declared.id.SiteNo.{SiteNo}
use Rattle.field_bounds.specs.Effects.{fresh}
use Rattle.field_bounds.specs.Owed.{is_up}
use Rattle.field_bounds.specs.Central.{own}
use Rattle.world_steps.specs.View.{trace_of}
use Rattle.escrow_run.specs.Level.{sites_up, free_at}
use Rattle.escrow_run.proofs.LevelLemmas.{some_more, shares_more, sum_within}
use Rattle.escrow_run.proofs.level.sites_up.Goals as goal

pub loop-number-preserved : goal.loop-number-preserved
loop-number-preserved c =
    let schema = c.args.world.now.schema in
    let t = trace_of c.args.world.now in
    let n : ℕ = c.loop-number.number in
    let site : SiteNo = record { 0 = n } in
    let f = free_at schema t c.args.level.field c.args.level.kind in
    let more = some_more (is_up (fresh schema n) (own n t)) (f site) c.in-Some.free n (sites_up schema t n) c.in-Some.ensures.value in
    let sites = c.in_ok-push.ensures.items in
    let shares = c.in_ok-push-2.ensures.items in
    record {
      sites = rw add-one (sites ∙ ap (λ l. l ++ site ∷ []) c.loop-number.invariant.sites ∙ more.1);
      shares = shares ∙ shares_more f c.loop-number.up.sites.items c.loop-number.up.shares.items site c.in-Some.free c.loop-number.invariant.shares more.0 ∙ ap (map f) (sym sites);
      few = rw shares (sum_within c.loop-number.up.shares.items c.in-Some.free n c.loop-number.invariant.few (c.in-Some.ensures.few c.schema.ensures.limits));
    }
