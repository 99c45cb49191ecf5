use Rattle.std.proofs.Common.{◌≡◌, ◌<◌, length, get_or, arith, rules}
use Rattle.trace_weave.specs.Weave.{history_at}
use Rattle.trace_windows.proofs.Sites.{tells_at}
use Rattle.trace_windows.proofs.windows.TraceWindowsHistories.upcoming.Goals as goal

pub returns : goal.returns
returns g c = λ hs counts told.
    let w = c.args.self.now in
    let s = c.args.site in
    let t = c.in_ok-get.field-0.now in
    let inside : c.from.result < length w.traces.items = search rules in
    let here : get_or w.traces.items c.from.result t ≡ t = search rules in
    let is = tells_at g.F.ReadAt.bytes hs counts w s c.from.result t told c.from.ensures here
    (omega (arith, inside, c.from.ensures, told.sites)) in
    c.upcoming.ensures.told w.schema.now is.text is.count (get_or counts s 0) (history_at hs s) told.limits is.at is.first
