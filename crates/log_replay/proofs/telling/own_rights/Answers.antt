use Rattle.std.proofs.Common.{◌∙◌, sym}
use Rattle.site_rights.specs.Rights.{own_at}
use Rattle.log_replay.proofs.Told.{rights_none, rights_more}
use Rattle.log_replay.proofs.telling.own_rights.Goals as goal

pub loop-number-init : goal.loop-number-init
loop-number-init c = c.new-told.ensures.items ∙ sym (rights_none (own_at c.args.rights.now))

pub loop-number-preserved : goal.loop-number-preserved
loop-number-preserved c =
    rights_more (own_at c.args.rights.now) c.loop-number.number c.loop-number.told.items c.push.new.self.items c.own.result
    c.own-in-loop-number.result c.loop-number.invariant c.own.ensures.value c.own-in-loop-number.ensures.value
    c.in_ok-push.ensures.items
