use Rattle.std.proofs.Common.{◌∙◌}
use Rattle.sealed_log.proofs.Closing.{sealed-opened, opened, opened-length}
use Rattle.sealed_log.proofs.sealed_log.SealedLog.open.Goals as goal

pub invariant_of-result : goal.invariant_of-result
invariant_of-result g c =
    let records = c.in-Ok.unsealed.records in
    sealed-opened (g.F.LogFile.bytes c.args.file) (g.F.LogFile.bytes c.read_closed.new.file) (g.F.LogFile.safe c.read_closed.new.file)
    records.items c.new.result.items c.len-closed.result _ c.in-Ok.ensures.ok c.in-Ok.ensures.safe
    (c.len-closed.ensures ∙ records.ok.0) c.new.ensures.items

pub returns-clause-opens : goal.returns-clause-opens
returns-clause-opens g c =
    let records = c.in-Ok.unsealed.records in
    opened (g.F.LogFile.bytes c.args.file) (g.F.LogFile.bytes c.read_closed.new.file) (g.F.LogFile.safe c.read_closed.new.file)
    records.items c.new.result.items c.len-closed.result _ _ _ c.in-Ok.ensures.ok (c.len-closed.ensures ∙ records.ok.0) c.new.ensures.items

pub returns-clause-closed : goal.returns-clause-closed
returns-clause-closed g c =
    let records = c.in-Ok.unsealed.records in
    opened-length (g.F.LogFile.bytes c.args.file) (g.F.LogFile.bytes c.read_closed.new.file)
    records.items c.new.result.items c.len-closed.result c.in-Ok.ensures.ok (c.len-closed.ensures ∙ records.ok.0) c.new.ensures.items
