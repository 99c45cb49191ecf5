use Rattle.site_workers.proofs.Posts.{row_more}
use Rattle.site_workers.proofs.all_sites.empty_rows.Goals as goal

pub loop-site-preserved : goal.loop-site-preserved
loop-site-preserved c =
    row_more c.loop-site.rows.items c.push.new.self.items c.new.result c.loop-site._site c.in_ok-push.ensures.items c.new.ensures.items
    c.loop-site.invariant
