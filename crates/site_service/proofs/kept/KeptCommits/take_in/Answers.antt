use Rattle.site_service.proofs.Index.{put_commit}
use Rattle.site_service.proofs.kept.KeptCommits.take_in.Goals as goal

pub returns-in_ok-insert-clause-ok : goal.returns-in_ok-insert-clause-ok
returns-in_ok-insert-clause-ok c txn =
    put_commit c.args.self.now.txns c.insert.new.self c.args.next.now c.in-Commit.txn c.in-Commit.escrows c.in-Commit.is
    c.in_ok-insert.ensures.ok txn
