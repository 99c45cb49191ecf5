use Rattle.trace_windows.proofs.Sites.{begin}
use Rattle.trace_windows.proofs.windows.TraceWindows.new.Goals as goal

pub returns : goal.returns
returns g c = record { told = λ hs each. begin g.F.ReadAt.bytes hs _ each }
