use Rattle.std.proofs.Common.{[], length, drop, sym, ap, ◌∙◌, subst, arith}
use Rattle.std.proofs.lemmas.List.{take-append-drop, take_rest}
use Rattle.kept_records.specs.Keeping.{IsKept}
use Rattle.kept_records.specs.Lines.{IsRecordAt}
use Rattle.kept_records.specs.Lent.{record_told}
use Rattle.kept_records.proofs.Cursors.{fewer, kept_behind}
use Rattle.kept_records.proofs.Lines.{no_log}
use Rattle.kept_records.proofs.Walks.{at_line, bad_at_line, begins_none, bad_there}
use Rattle.site_service.proofs.Index.{rest_kept, index_more}
use Rattle.site_service.proofs.kept.KeptCommits.look.Goals as goal

pub loop-of-by_line-init : goal.loop-of-by_line-init
loop-of-by_line-init c =
    let log = c.args.log.now in
    let index = c.requires.index in
    let left = c.new-records.ensures.all ∙ take_rest log c.args.self.now.seen in
    record {
      index = index;
      left = left;
      kept = subst IsKept (sym left)
          (rest_kept _ (drop c.args.self.now.seen log) log index.records index.lines (sym (take-append-drop c.args.self.now.seen log)) c.requires.log);
    }

pub loop-of-by_line-preserved-in-Some : goal.loop-of-by_line-preserved-in-Some
loop-of-by_line-preserved-in-Some c =
    let old = c.loop-of-by_line.self in
    let inv = c.loop-of-by_line.invariant in
    let lent = c.next_common.new.self in
    let next = record_told c.in-Some.next lent.escrows in
    let at : IsRecordAt c.loop-of-by_line.records.left next lent.left = c.in-Some.ensures.handed in
    let more = index_more old (record { txns = c.take_common.new.self.txns; seen = _ }) c.args.log.now lent.left next inv.index
    (sym inv.left ∙ at.parts) at.fits (λ txn. c.in_ok-take_common.ensures.ok txn lent.escrows) (omega (arith, c.left.ensures.value)) in
    record {
      index = more.0;
      left = more.1;
      kept = kept_behind c.loop-of-by_line.records.left lent.left next inv.kept at.parts at.fits;
    }

pub loop-of-by_line-smaller : goal.loop-of-by_line-smaller
loop-of-by_line-smaller c =
    let at = at_line _ c.in_default.ensures.handed c.in_ok-record.ensures.handed c.in-Record.is in
    omega (arith, fewer c.loop-of-by_line.records.left c.next_line.new.self.left c.in-Record.record at.parts, ap length c.give_back.ensures.same)

pub loop-of-by_line-preserved : goal.loop-of-by_line-preserved
loop-of-by_line-preserved c =
    let old = c.loop-of-by_line.self in
    let inv = c.loop-of-by_line.invariant in
    let new = c.next_line.new.self.left in
    let at = at_line _ c.in_default.ensures.handed c.in_ok-record.ensures.handed c.in-Record.is in
    let same = c.give_back.ensures.same in
    let more = index_more old (record { txns = c.take_in.new.self.txns; seen = _ }) c.args.log.now new c.in-Record.record inv.index
    (sym inv.left ∙ at.parts) at.fits c.in_ok-take_in-in-Record.ensures.ok (omega (arith, c.left-left.ensures.value, ap length same)) in
    record {
      index = more.0;
      left = same ∙ more.1;
      kept = subst IsKept (sym same) (kept_behind c.loop-of-by_line.records.left new c.in-Record.record inv.kept at.parts at.fits);
    }

pub unreachable-requires : goal.unreachable-requires
unreachable-requires c =
    let left = c.loop-of-by_line.records.left in
    let inv = c.loop-of-by_line.invariant in
    let bad = bad_at_line _ c.in_default.ensures.handed c.in_ok-record.ensures.handed c.in-NoRecord.is in
    no_log left 1 (bad_there left [] left 0 (begins_none left) bad.0).0 inv.kept.0 inv.kept.1 inv.kept.2
