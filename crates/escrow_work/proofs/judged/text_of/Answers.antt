use Rattle.std.proofs.Common.{arith}
use Rattle.escrow_work.proofs.Told.{text_more}
use Rattle.escrow_work.proofs.judged.text_of.Goals as goal

pub loop-entry-preserved : goal.loop-entry-preserved
loop-entry-preserved c =
    let made = c.in_ok-append_entry.ensures.ok in
    let ended = c.in_ok-push-2.ensures.items in
    text_more c.args.schema.now c.args.header.items c.args.entries.now c.loop-entry.entry-index _ c.loop-entry.out.items _ _ (omega arith)
    c.loop-entry.invariant made ended
