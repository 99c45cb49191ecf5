use Rattle.escrow_run.proofs.TakenLemmas.{always_made}
use Rattle.escrow_run.proofs.machine.add_reply.Goals as goal

pub unreachable-requires : goal.unreachable-requires
unreachable-requires c =
    always_made c.args.one.now c.in-Do.site c.in-Do.command c.in-Do.luck c.requires.answered c.in-NoStatement.is c.in-Do.is
