use Rattle.std.proofs.Common.{length, sym, subst, ap}
use Rattle.file_medium.proofs.Known.{front-read}
use Rattle.file_medium.specs.Files.{ReadsAt}
use Rattle.file_medium.specs.Copies.{IsFrontOf}
use Rattle.file_medium.proofs.copying.read_next.Goals as goal

pub returns-in_ok-keep-in-Ok-clause-read : goal.returns-in_ok-keep-in-Ok-clause-read
returns-in_ok-keep-in-Ok-clause-read g c =
    let known = g.F.LogFile.bytes c.args.file.now in
    let held = c.args.held.now.items in
    let buffer = c.read_at.new.buffer in
    let n = c.in-Ok.count in
    let reads = subst (λ at. ReadsAt known at n buffer) (ap length c.as_slice-at.ensures.value) c.in-Ok.ensures.read in
    subst (λ k. IsFrontOf k c.keep.new.held.items) (sym c.read_at.ensures.bytes)
    (subst (IsFrontOf known) (sym c.in_ok-keep-in-Ok.ensures.kept)
    (front-read known held buffer n c.in-Ok.ensures.bound.0 c.requires.front reads))
