use Rattle.std.proofs.Common.{◌∙◌, sym}
use Rattle.kept_records.specs.Summary.{cut_told}
use Rattle.log_replay.proofs.Told.{rights_none, rights_more}
use Rattle.log_replay.proofs.standing.cut_rows.Goals as goal

pub loop-number-init : goal.loop-number-init
loop-number-init c = c.new-rows.ensures.items ∙ sym (rights_none (cut_told c.args.cuts.now))

pub loop-number-preserved : goal.loop-number-preserved
loop-number-preserved c =
    rights_more (cut_told c.args.cuts.now) c.loop-number.number c.loop-number.rows.items c.push.new.self.items c.cut_told-lower.result
    c.cut_told-raise.result c.loop-number.invariant c.cut_told-lower.ensures.value c.cut_told-raise.ensures.value
    c.in_ok-push.ensures.items
