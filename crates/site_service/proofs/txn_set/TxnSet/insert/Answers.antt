use Rattle.site_service.proofs.Rising.{pushed, inserted}
use Rattle.site_service.proofs.txn_set.TxnSet.insert.Goals as goal

pub returns-in_ok-push-clause-ok : goal.returns-in_ok-push-clause-ok
returns-in_ok-push-clause-ok c other =
    rw (← c.self.view_is, c.in_ok-push.ensures.items) (pushed c.self.inside.rising.items c.self.inside.late c.args.txn other)

pub returns-in_ok-insert-clause-ok : goal.returns-in_ok-insert-clause-ok
returns-in_ok-insert-clause-ok c other =
    rw (← c.self.view_is)
    (inserted c.self.inside.rising.items c.self.inside.late c.args.txn other c.insert.new.self c.in_ok-insert.ensures.updates)
