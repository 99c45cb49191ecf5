use Rattle.site_service.proofs.Index.{index_tells}
use Rattle.site_service.proofs.kept.KeptCommits.holds.Goals as goal

pub returns-clause-kept : goal.returns-clause-kept
returns-clause-kept c =
    index_tells c.look.new.self c.args.log.now c.args.txn c.contains.result c.look.ensures.index c.in_ok-look.ensures.all c.contains.ensures.value
