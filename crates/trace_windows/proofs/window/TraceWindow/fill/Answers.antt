use Rattle.std.proofs.Common.{◌≡◌, ◌<◌, true, false, subst, arith, rules}
use Rattle.std.proofs.lemmas.Result.{err_from_is_err_and}
use Rattle.trace_windows.specs.Windows.{HasRead, ReadsOn}
use Rattle.trace_windows.proofs.Moving.{is_false, is_true}
use Rattle.trace_windows.proofs.window.TraceWindow.fill.Goals as goal

pub returns-then-is_filled-clause-filled : goal.returns-then-is_filled-clause-filled
returns-then-is_filled-clause-filled g c = λ text count n on.
    let now = c.loop.invariant.on text count n on in
    record { on = now; next = λ less. c.is_filled.ensures.yes c.if-is_filled.true (omega (arith, now.left, less)) }

pub returns-in_err-read_on-clause-why : goal.returns-in_err-read_on-clause-why
returns-in_err-read_on-clause-why g c =
    let p = err_from_is_err_and c.from_residual.result c.from_residual.ensures.1 in
    rw (p.1, p.2) (λ text count n on. c.in_err-read_on.ensures.why c.args.schema.now text count)

pub returns-then-not-branch-clause-why : goal.returns-then-not-branch-clause-why
returns-then-not-branch-clause-why g c = λ text count n on.
    let now = c.loop.invariant.on text count n on in
    let some : 0 < c.loop.self.left = c.is_filled.ensures.some c.if-is_filled.false in
    let none : c.in_ok-read_on.field-0 ≡ false = search (rules, is_false) in
    let ends : ReadsOn g.F.ReadAt.bytes c.loop.self c.read_on.new.self false =
    subst (λ b. ReadsOn g.F.ReadAt.bytes c.loop.self c.read_on.new.self b) none c.in_ok-read_on.ensures.read in
    ends c.args.schema.now text count n (c.is_filled.ensures.no c.if-is_filled.false) (omega (arith, now.left, some)) now

pub returns-in_err-move_on-clause-why : goal.returns-in_err-move_on-clause-why
returns-in_err-move_on-clause-why g c =
    let p = err_from_is_err_and c.from_residual-in_err-move_on.result c.from_residual-in_err-move_on.ensures.1 in
    let there : c.in_ok-read_on.field-0 ≡ true = search (rules, is_true) in
    let reads : ReadsOn g.F.ReadAt.bytes c.loop.self c.read_on.new.self true =
    subst (λ b. ReadsOn g.F.ReadAt.bytes c.loop.self c.read_on.new.self b) there c.in_ok-read_on.ensures.read in
    rw (p.1, p.2) (λ text count n on.
    c.in_err-move_on.ensures.why text count n
    (reads c.args.schema.now text count n (c.is_filled.ensures.no c.if-is_filled.false) (c.loop.invariant.on text count n on)))
