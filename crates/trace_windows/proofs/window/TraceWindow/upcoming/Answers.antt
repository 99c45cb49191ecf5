use Rattle.std.proofs.Common.{◌≡◌, ◌<◌, get_or, sym, arith, rules}
use Rattle.trace_windows.proofs.Telling.{told_next}
use Rattle.trace_windows.proofs.window.TraceWindow.upcoming.Goals as goal

pub returns : goal.returns
returns g c = record {
  told = λ schema text count n entries limits is first.
      let w = c.args.self.now in
      let t = c.in_ok-get.field-0.now in
      let some : 0 < w.left = search rules in
      let at : get_or w.window.items w.place t ≡ t = search rules in
      sym (told_next g.F.ReadAt.bytes schema limits text count n entries w is first t (omega (arith, is.on.left, some)) at);
}
