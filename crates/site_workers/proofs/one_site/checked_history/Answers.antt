use Rattle.std.proofs.Common.{refl, sym, ◌∙◌, rules}
use Rattle.site_workers.specs.Faults.{TurnsNone}
use Rattle.site_workers.proofs.Scripts.{is_closed}
use Rattle.site_workers.proofs.Faults.{differs_fault}
use Rattle.site_workers.proofs.one_site.checked_history.Goals as goal

pub returns-clause-closed : goal.returns-clause-closed
returns-clause-closed c =
    is_closed c.args.closed.now c.args.closed.now.schema c.args.closed.now.site c.history-history.result.now
    c.in_ok-to_vec.field-0.items c.args.receipts.now
    c.history-history.ensures.value refl refl
    (sym c.on_fresh_base.ensures.value ∙ c.if-not-on_fresh_base.false)
    c.history-history.ensures.run
    c.history-history.ensures.own
    c.in_default.ensures.ok
    (search rules)

pub returns-in-Err-clause-fault : goal.returns-in-Err-clause-fault
returns-in-Err-clause-fault c =
    differs_fault c.args.closed.now c.args.closed.now.schema c.args.closed.now.site TurnsNone c.args.receipts.now c.in-Err.fault _
    c.fault_of_receipts.ensures refl refl
    (sym c.on_fresh_base.ensures.value ∙ c.if-not-on_fresh_base.false)
    c.history-history.ensures.run
    c.history-history.ensures.own
    c.in-Err.ensures.fault
