use Rattle.std.proofs.Common.{◌≡◌, ◌<◌, ◌++◌, length, take, refl, sym, subst, arith, rules}
use Rattle.file_medium.specs.Files.{ReadsAt}
use Rattle.trace_windows.proofs.Moving.{ends, reads}
use Rattle.trace_windows.proofs.window.TraceWindow.read_on.Goals as goal

pub returns-in-Ok-eq0-clause-read : goal.returns-in-Ok-eq0-clause-read
returns-in-Ok-eq0-clause-read g c = λ schema text count n all less on.
    let w = c.args.self.now in
    let none : c.in-Ok-eq0.field-0 ≡ 0 = search rules in
    let at : ReadsAt (g.F.ReadAt.bytes w.file) w.read 0 c.read_at.new.buffer =
    subst (λ k. ReadsAt (g.F.ReadAt.bytes w.file) w.read k c.read_at.new.buffer) none c.in-Ok-eq0.ensures.read in
    let some : 0 < length c.read_at.new.buffer = search rules in
    ends g.F.ReadAt.bytes schema text count n w c.read_at.new.buffer all less on at some

pub returns-in_ok-extend_from_slice-in-Ok-clause-read :
    goal.returns-in_ok-extend_from_slice-in-Ok-clause-read
returns-in_ok-extend_from_slice-in-Ok-clause-read g c = λ schema text count n all on.
    let w = c.args.self.now in
    let k = c.in-Ok.count in
    let buffer = c.read_at.new.buffer in
    let torn : c.extend_from_slice.new.self.items ≡ w.torn.items ++ take k buffer = search rules in
    reads g.F.ReadAt.bytes schema text count n w _ k buffer all on c.in-Ok.ensures.bound.0 c.in-Ok.ensures.read c.read_at.ensures.bytes
    (λ fits. omega (arith, fits, c.saturating_add-self.ensures)) torn refl refl
