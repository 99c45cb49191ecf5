use Rattle.std.proofs.Common.{◌<◌, ◌≤◌, length, arith}
use Rattle.reaching_steps.proofs.Growing.{on_ok}
use Rattle.reaching_steps.proofs.OnePass.{read_past, read_one}
use Rattle.reaching_steps.proofs.site_effects.read_there.Goals as goal

pub returns-then-place-table : goal.returns-then-place-table
returns-then-place-table c =
    let past : length c.args.table.now ≤ c.args.entry.now.site.0 = omega (arith, c.if-place-table.true, c.from-place.ensures) in
    record { read = read_past c.args.schema.now c.args.field.0 c.args.table.now c.args.entry.now c.args.later.now past }

pub returns : goal.returns
returns c =
    let at = c.from-place.ensures in
    let inside : c.args.entry.now.site.0 < length c.args.table.now = omega (arith, c.if-place-table.false, at) in
    record {
      read = rw at (on_ok c.read_own.result _ _
          (λ did. read_one c.args.schema.now c.args.field.0 c.args.table.now c.read_own.new.standing c.index-table-place.result
          c.args.entry.now c.args.later.now inside did) (rw at at c.read_own.ensures.read));
    }
