use Rattle.std.proofs.Common.{◌≡◌, drop, refl, sym, ap, subst, ◌∙◌, arith}
use Rattle.site_trace.specs.Traces.{IsTrace, TellsFault}
use Rattle.trace_windows.specs.Texts.{TellsWhy}
use Rattle.trace_windows.proofs.Moving.{moves, moves_why, rest_of}
use Rattle.trace_windows.proofs.window.TraceWindow.move_on.Goals as goal

pub returns-in_ok-self-in-Ok-clause-on : goal.returns-in_ok-self-in-Ok-clause-on
returns-in_ok-self-in-Ok-clause-on g c = λ text count n has.
    let w = c.args.self.now in
    let schema = c.args.schema.now in
    let is : IsTrace schema w.torn.items c.in-Ok.trace =
    subst (λ l. IsTrace schema l c.in-Ok.trace) c.as_slice.ensures.value c.in-Ok.ensures.ok in
    let torn : c.in_ok-self-in-Ok.field-0.items ≡ drop c.min-whole.result w.torn.items =
    c.in_ok-self-in-Ok.ensures.items ∙ rest_of c.min-whole.result c.deref.result.now ∙ ap (drop c.min-whole.result) c.deref.ensures.value in
    moves g.F.ReadAt.bytes schema text count n w _ c.in-Ok.trace c.min-whole.result has is
    (λ within. omega (arith, within, c.min-whole.ensures, c.len.ensures, w.torn.ok.0)) refl refl torn refl refl refl refl

pub returns-in-Err-clause-why : goal.returns-in-Err-clause-why
returns-in-Err-clause-why g c = λ text count n has.
    let w = c.args.self.now in
    let schema = c.args.schema.now in
    let tells : TellsFault schema w.torn.items c.in-Err.fault =
    subst (λ l. TellsFault schema l c.in-Err.fault) c.as_slice.ensures.value c.in-Err.ensures.err in
    subst (λ f. TellsWhy schema text count f) (sym c.fault_of.ensures)
    (moves_why g.F.ReadAt.bytes schema text count n w c.in-Err.fault has tells)
