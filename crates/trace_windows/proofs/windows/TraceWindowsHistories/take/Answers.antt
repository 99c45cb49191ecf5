use Rattle.std.proofs.Common.{◌≡◌, get_or, set, refl, sym, ap, ◌∙◌, rules}
use Rattle.trace_windows.proofs.Sites.{take_one}
use Rattle.trace_windows.proofs.windows.TraceWindowsHistories.take.Goals as goal

pub returns-in-Ok-clause-taken : goal.returns-in-Ok-clause-taken
returns-in-Ok-clause-taken g c = λ hs counts entry told next.
    let w = c.args.self.now in
    let s = c.args.site in
    let t = c.in-Some.trace.now in
    let now = c.take.new.self in
    let here : get_or w.traces.items c.from.result t ≡ t = search rules in
    take_one g.F.ReadAt.bytes hs counts w _ s entry t now told next refl (ap (λ k. set w.traces.items k now) c.from.ensures)
    (ap (λ k. get_or w.traces.items k t) (sym c.from.ensures) ∙ here) c.in-Ok.ensures.taken
