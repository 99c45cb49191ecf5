use Rattle.std.proofs.Common.{◌≤◌, ℕ, ◌+◌, ◌<◌, length, refl, ap, ◌∙◌, arith, length-set}
use Rattle.site_workers.proofs.Posts.{starts_hiring, hires_next, hired_all}
use Rattle.site_workers.proofs.all_sites.hire_all.Goals as goal

pub loop-site-init : goal.loop-site-init
loop-site-init c = (refl, c.requires.new, c.requires.rows, starts_hiring c.args.spare.now c.args.posts.now.items)

pub loop-site-preserved : goal.loop-site-preserved
loop-site-preserved c =
    let below : c.loop-site.site < length c.loop-site.posts.items = omega (arith, c.loop-site-test.true, c.loop-site.invariant.2) in (
      c.in_ok-post.ensures.inbox ∙ c.loop-site.invariant.0,
      c.in_ok-post.ensures.made ∙ ap (λ (n : ℕ). n + 1) c.loop-site.invariant.1,
      length-set c.loop-site.posts.items c.from.result c.push.new.self ∙ c.loop-site.invariant.2,
      hires_next c.args.spare.now c.loop-site.spare c.args.posts.now.items c.loop-site.posts.items c.loop-site.site c.from.result
          c.index_mut.result.now c.push.new.self c.in_ok-post.post below c.from.ensures c.index_mut.ensures.value
          c.in_ok-push.ensures.items c.loop-site.invariant.0 c.in_ok-post.ensures.end c.in_ok-post.ensures.worker
          c.loop-site.invariant.3,
    )

pub returns-clause-hired : goal.returns-clause-hired
returns-clause-hired c =
    let whole : length c.args.posts.now.items ≤ c.loop-site.site = omega (arith, c.loop-site-test.false, c.requires.rows) in
    hired_all c.args.spare.now c.loop-site.spare c.args.posts.now.items c.loop-site.posts.items c.loop-site.site whole
    c.loop-site.invariant.0 c.loop-site.invariant.3
