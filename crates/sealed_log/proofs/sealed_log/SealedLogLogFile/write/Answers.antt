use Rattle.std.proofs.Common.{rules, arith}
use Rattle.sealed_log.proofs.Closing.{sealed-written}
use Rattle.sealed_log.proofs.sealed_log.SealedLogLogFile.write.Goals as goal

pub invariant_of-self-2 : goal.invariant_of-self-2
invariant_of-self-2 g c =
    let l = c.self.inside in
    sealed-written l.closed l.is_lost l.is_ended (g.F.LogFile.bytes l.file) (g.F.LogFile.safe l.file) l.records.items l.batch.items c.args.piece.now
    c.add_piece.new.batch.items _ _ _ c.self.invariant (search (rules, c.is_batch.ensures.decides, c.if-not-is_batch.false)) c.in_ok-add_piece.ensures.ok
    (omega (arith, c.add_piece.new.batch.ok.0, c.in_ok-add_piece.ensures.room))
