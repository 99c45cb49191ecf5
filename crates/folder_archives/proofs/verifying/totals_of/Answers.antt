use Rattle.std.proofs.Common.{ℕ, List, ◌<◌, ◌^◌, subst, arith}
use Rattle.folder_archives.specs.Steps.{AreTotalsOf}
use Rattle.folder_archives.proofs.Lasts.{totals_are}
use Rattle.folder_archives.proofs.verifying.totals_of.Goals as goal

pub returns : goal.returns
returns c =
    let held = c.args.held.now in
    let slice = c.as_slice-records.result.now in
    let count = c.in_ok-count_held.field-0 in
    let stand = c.in_ok-stand_held.field-0 in
    let few : count.plain < 2 ^ 64 = omega arith in
    let short : stand.length < 2 ^ 64 = omega arith in
    let counts = c.in_ok-count_held.ensures in
    let stands = c.in_ok-stand_held.ensures in
    record {
      totals = subst (λ (l : List ℕ). AreTotalsOf held.gone l (record { records = count.plain; bytes = stand.length }))
          c.as_slice-records.ensures.bytes
          (totals_are held.gone slice count stand few short counts.whole counts.behind stands.whole stands.behind);
    }
