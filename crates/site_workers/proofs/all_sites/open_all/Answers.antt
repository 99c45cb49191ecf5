use Rattle.std.proofs.Common.{◌∙◌}
use Rattle.site_workers.proofs.Posts.{opens_next}
use Rattle.site_workers.proofs.all_sites.open_all.Goals as goal

pub loop-site-preserved : goal.loop-site-preserved
loop-site-preserved c =
    opens_next c.args.sites c.loop-site._site c.loop-site.posts.items c.hire_all.new.posts.items c.loop-site.spares.items
    c.push-in-loop-site.new.self.items c.hire_all.new.spare c.admit.new.self c.admit.ensures.inbox
    (c.admit.ensures.made ∙ c.in_ok-hire_all.ensures.made) c.in_ok-push-2.ensures.items c.in_ok-hire_all.ensures.hired
    c.loop-site.invariant
