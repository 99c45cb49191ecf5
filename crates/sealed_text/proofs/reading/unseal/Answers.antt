use Rattle.std.proofs.Common.{◌≡◌, ◌++◌, refl, rules}
use Rattle.sealed_text.proofs.Taking.{taken_more, behind_less, less_behind, unseals_ended, unseals_torn, damaged_at}
use Rattle.sealed_text.proofs.reading.unseal.Goals as goal

pub loop-batch-smaller : goal.loop-batch-smaller
loop-batch-smaller c = less_behind c.loop-batch.rest.now c.in-Records.batch.now c.in-Records.behind.now c.in-Records.ensures.rest.1

pub loop-batch-preserved : goal.loop-batch-preserved
loop-batch-preserved c =
    let one = c.in-Records.ensures.rest in
    let items : c.extend_from_slice.new.self.items ≡ c.loop-batch.records.items ++ c.in-Records.batch.now = search rules in (
      rw items (taken_more c.args.text.now c.loop-batch.rest.now c.loop-batch.records.items c.in-Records.batch.now c.in-Records.behind.now
          c.loop-batch.invariant.0 one.0 one.1),
      behind_less c.args.text.now c.loop-batch.rest.now c.in-Records.batch.now c.in-Records.behind.now c.loop-batch.invariant.1 one.1,
    )

pub returns-in-Ended-clause-ok : goal.returns-in-Ended-clause-ok
returns-in-Ended-clause-ok c = unseals_ended c.args.text.now c.loop-batch.rest.now _ c.loop-batch.invariant.0 c.in-Ended.ensures.rest refl refl

pub overflow_sub-result : goal.overflow_sub-result
overflow_sub-result c = c.loop-batch.invariant.1

pub returns-in-Torn-clause-ok : goal.returns-in-Torn-clause-ok
returns-in-Torn-clause-ok c = unseals_torn c.args.text.now c.loop-batch.rest.now _ c.loop-batch.invariant.0 c.in-Torn.ensures.rest refl refl

pub slice_bounds-line_behind-count : goal.slice_bounds-line_behind-count
slice_bounds-line_behind-count c = c.loop-batch.invariant.1

pub returns-in-Damaged-clause-err : goal.returns-in-Damaged-clause-err
returns-in-Damaged-clause-err c =
    damaged_at c.args.text.now c.loop-batch.rest.now c.loop-batch.records.items c.line_behind.result
    c.loop-batch.invariant.0 c.in-Damaged.ensures.rest c.line_behind.ensures.line
