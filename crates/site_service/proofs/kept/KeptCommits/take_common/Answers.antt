use Rattle.std.proofs.Common.{refl}
use Rattle.kept_records.specs.declared.record.Record.TheVariants.{Commit}
use Rattle.site_service.proofs.Index.{put_commit}
use Rattle.site_service.proofs.kept.KeptCommits.take_common.Goals as goal

pub returns-in_ok-insert-clause-ok : goal.returns-in_ok-insert-clause-ok
returns-in_ok-insert-clause-ok c txn escrows = rw c.in-Commit.is (
    put_commit c.args.self.now.txns c.insert.new.self (Commit c.in-Commit.txn escrows) c.in-Commit.txn escrows refl
    c.in_ok-insert.ensures.ok txn)
