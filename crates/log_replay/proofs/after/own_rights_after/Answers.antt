use Rattle.std.proofs.Common.{◌∙◌, sym}
use Rattle.log_replay.specs.After.{own_after}
use Rattle.log_replay.proofs.Told.{rights_none, rights_more}
use Rattle.log_replay.proofs.after.own_rights_after.Goals as goal

pub loop-number-init : goal.loop-number-init
loop-number-init c = c.new-told.ensures.items ∙ sym (rights_none (own_after c.args.rights.now c.args.next.now c.args.rise))

pub loop-number-preserved : goal.loop-number-preserved
loop-number-preserved c =
    rights_more (own_after c.args.rights.now c.args.next.now c.args.rise) c.loop-number.number c.loop-number.told.items
    c.push.new.self.items
    c.own_after.result c.own_after-in-loop-number.result c.loop-number.invariant c.own_after.ensures.value
    c.own_after-in-loop-number.ensures.value c.in_ok-push.ensures.items
