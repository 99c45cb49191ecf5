use Rattle.std.proofs.Common.{◌≡◌, get_or, rules}
use Rattle.trace_weave.specs.Weave.{history_at}
use Rattle.trace_windows.proofs.Sites.{counts_yet, tells_at, within}
use Rattle.trace_windows.proofs.windows.TraceWindowsHistories.next_number.Goals as goal

pub returns-in-Some : goal.returns-in-Some
returns-in-Some g c = λ hs counts entry told next.
    let w = c.args.self.now in
    let s = c.args.site in
    let t = c.in-Some.trace.now in
    let bytes = g.F.ReadAt.bytes in
    let here : get_or w.traces.items c.from.result t ≡ t = search rules in
    let is = tells_at bytes hs counts w s c.from.result t told c.from.ensures here (within hs counts s entry next) in
    c.next_number.ensures.number w.schema.now is.text is.count (get_or counts s 0)
    (counts_yet bytes hs w.schema.now (history_at hs s) (get_or counts s 0) entry t is next) is.at
