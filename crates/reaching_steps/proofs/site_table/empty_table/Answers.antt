use Rattle.reaching_steps.proofs.OnePass.{empty_none, empty_more}
use Rattle.reaching_steps.proofs.site_table.empty_table.Goals as goal

pub loop-site-init : goal.loop-site-init
loop-site-init c = empty_none c.args.field.0 c.new-table.result.items c.new-table.ensures.items

pub loop-site-preserved : goal.loop-site-preserved
loop-site-preserved c =
    empty_more c.args.field.0 c.loop-site.table.items c.push.new.self.items _ c.loop-site.site c.loop-site.invariant.0
    c.in_ok-push.ensures.items (c.standing_at_first.ensures.fresh c.args.field.0) c.loop-site.invariant.1
