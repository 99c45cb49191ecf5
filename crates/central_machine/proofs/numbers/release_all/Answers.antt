use Rattle.std.proofs.Common.{◌∙◌, ap, arith}
use Rattle.central_machine.specs.declared.journal.OpenRow.{OpenRow}
use Rattle.central_machine.specs.FieldAmounts.{amount}
use Rattle.central_machine.proofs.Ending.{row_less, row_more}
use Rattle.central_machine.proofs.numbers.release_all.Goals as goal

pub loop-row-preserved : goal.loop-row-preserved
loop-row-preserved c =
    let was = c.loop-row.invariant in
    let rows = c.args.rows.now in
    let i = c.loop-row.row-index in
    let d = c.row-item.result in
    let below = c.loop-row-test.true in
    let xs = c.deref.result.now in
    let is = c.deref.ensures.value ∙ ap (λ (r : OpenRow). r.escrows.items) c.row-item.is in
    record {
      held = λ f k there. row_less rows i d below f k xs is (amount c.args.held.now f k) (amount c.loop-row.held f k)
          (amount c.settle_all.new.held f k) (was.held f k there) (c.settle_all.ensures.held f k (was.held_places f ∙ there));
      free = λ f k there fits. let more = was.free f k there fits in
          row_more rows i d below f k xs is (amount c.args.free.now f k) (amount c.loop-row.free f k) (amount c.settle_all.new.free f k) more
          (c.settle_all.ensures.free f k (was.free_places f ∙ there) (omega (arith, more)));
      held_places = λ g. c.settle_all.ensures.held_places g ∙ was.held_places g;
      free_places = λ g. c.settle_all.ensures.free_places g ∙ was.free_places g;
    }
