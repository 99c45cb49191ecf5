use Rattle.entry_text.specs.Taking.{id_from}
use Rattle.entry_text.proofs.Taken.{id_at_is, gives_none, gives_more, none_more}
use Rattle.entry_text.proofs.word.txn_at.Goals as goal

pub returns-in_err-epoch : goal.returns-in_err-epoch
returns-in_err-epoch c =
    gives_none _ _ _ c.from_residual.ensures (none_more id_from _ _ (id_at_is c.args.line.now) c.in_err-epoch.ensures.word)

pub returns : goal.returns
returns c =
    gives_more _ _ c.args.line.now (c.in_ok-epoch.epoch, c.in_ok-epoch.number) id_from _ _ (id_at_is c.args.line.now) c.in_ok-epoch.ensures.word
    c.txn_from.ensures
