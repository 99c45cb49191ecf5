use Rattle.std.proofs.Common.{ap, cond, ℕ, Bool, arith, ◌∙◌}
use Rattle.site_trace.proofs.Cuts.{told_more, told_cut}
use Rattle.site_trace.proofs.cutting.count_kept.Goals as goal
use Rattle.site_trace.proofs.cutting.count_kept.Goals.{then-leaves_record+else-left-kept, else-leaves_record}

pub returns-then-left-kept-clause-some : goal.returns-then-left-kept-clause-some
returns-then-left-kept-clause-some g c =
    let e = c.index-entries-place.result in
    told_cut g.T.TellsEntry.told c.args.entries.now c.args.kept c.loop-place.place e c.entry.result.now c.leaves_record.result
    c.loop-place-test.true (c.entry.ensures ∙ ap g.T.TellsEntry.told c.index-entries-place.is) c.leaves_record.ensures c.if-leaves_record.true
    (omega (arith, c.loop-place.invariant.counted, c.if-left-kept.true))

pub loop-place-preserved : goal.loop-place-preserved
loop-place-preserved g c =
    let e = c.index-entries-place.result in
    let more = told_more g.T.TellsEntry.told c.args.entries.now c.loop-place.place e c.entry.result.now c.leaves_record.result
    c.loop-place-test.true (c.entry.ensures ∙ ap g.T.TellsEntry.told c.index-entries-place.is) c.leaves_record.ensures in
    let counted = c.loop-place.invariant.counted in
    let few = c.loop-place.invariant.few in
    elim c.if-leaves_record.branch [
      | then-leaves_record+else-left-kept w ↦ record {
        counted = omega (arith, w.left-is, counted, more, ap {B = ℕ} (λ (v : Bool). cond v 1 0) w.if-leaves_record.true);
        few = omega (arith, w.left-is, few, w.if-left-kept.false);
      }
      | else-leaves_record w ↦ record {
        counted = omega (arith, w.left-is, counted, more, ap {B = ℕ} (λ (v : Bool). cond v 1 0) w.if-leaves_record.false);
        few = omega (arith, w.left-is, few);
      }
    ]
