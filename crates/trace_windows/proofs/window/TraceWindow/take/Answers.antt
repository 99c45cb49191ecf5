use Rattle.std.proofs.Common.{◌+◌, ◌<◌, ◌^◌, ℕ, List, length, refl, arith}
use Rattle.std.proofs.lemmas.Result.{on_ok_weaker, IfErr-weaker}
use Rattle.trace_windows.specs.Windows.{IsFilled}
use Rattle.trace_windows.proofs.Moving.{takes}
use Rattle.trace_windows.proofs.window.TraceWindow.take.Goals as goal

pub returns-clause-taken : goal.returns-clause-taken
returns-clause-taken g c =
    let w = c.args.self.now in
    on_ok_weaker c.fill.result
    (λ fills text count n less is.
    fills text count (n + 1)
    (takes g.F.ReadAt.bytes c.args.schema.now text count n w _ (is.next less) less is.on refl refl refl refl
    (let inside = is.next less in omega (arith, inside, c.saturating_add-self.ensures, w.window.ok.0))
    (λ few. omega (arith, few, c.saturating_add-self-2.ensures)) (λ some. omega (arith, some, c.saturating_sub-self.ensures))))
    c.fill.ensures.filled

pub returns-clause-why : goal.returns-clause-why
returns-clause-why g c =
    let w = c.args.self.now in
    IfErr-weaker c.fill.result _ _
    (λ fault tells text count n less is.
    tells text count (n + 1)
    (takes g.F.ReadAt.bytes c.args.schema.now text count n w _ (is.next less) less is.on refl refl refl refl
    (let inside = is.next less in omega (arith, inside, c.saturating_add-self.ensures, w.window.ok.0))
    (λ few. omega (arith, few, c.saturating_add-self-2.ensures)) (λ some. omega (arith, some, c.saturating_sub-self.ensures))))
    c.fill.ensures.why
