use Rattle.std.proofs.Common.{refl, arith}
use Rattle.trace_windows.proofs.Moving.{begins}
use Rattle.trace_windows.proofs.window.TraceWindow.new.Goals as goal

pub returns : goal.returns
returns g c = record {
  on = λ schema text is.
      begins g.F.ReadAt.bytes schema text c.args.count 0 _ c.args.start is refl c.new.ensures.items c.new-2.ensures.items refl refl refl (omega arith) refl;
}
