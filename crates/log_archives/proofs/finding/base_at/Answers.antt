use Rattle.std.proofs.Common.{◌≡◌, ◌+◌, ◌-◌, ◌≤◌, length, arith}
use Rattle.log_archives.proofs.Finds.{other_line}
use Rattle.log_archives.specs.Heads.{bytes_told}
use Rattle.log_archives.proofs.finding.base_at.Goals as goal

pub returns-in-None : goal.returns-in-None
returns-in-None c =
    let cut = c.args.told.now.bytes - c.bytes_told-before.result in
    let within : cut ≤ length c.args.held.now = omega (arith, c.if-held-cut.false) in
    let place : c.args.told.now.bytes ≡ bytes_told c.args.gone.now + cut =
    omega (arith, c.if-told-before.false, c.bytes_told-before.ensures.value) in
    let none = rw c.in-None.is at c.behind.ensures.rest in
    record {
      found = other_line c.args.gone.now c.args.held.now c.args.told.now c.args.base.now c.split_at.result.1.now cut within
          c.split_at.ensures.back none place;
    }
