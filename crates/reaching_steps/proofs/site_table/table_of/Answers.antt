use Rattle.std.proofs.Common.{◌≡◌, length, rules}
use Rattle.world_steps.specs.View.{trace_of}
use Rattle.reaching_steps.proofs.OnePass.{told_back}
use Rattle.reaching_steps.proofs.site_table.table_of.Goals as goal

pub returns-clause-told : goal.returns-clause-told
returns-clause-told c =
    let long : length c.fill.new.table ≡ c.in_ok-table.table.len = search rules in
    told_back c.args.world.now.schema c.args.field.0 (trace_of c.args.world.now) c.fill.new.table c.in_ok-table.table.items
    c.in_ok-table.table.len long c.in_ok-fill.ensures.told
