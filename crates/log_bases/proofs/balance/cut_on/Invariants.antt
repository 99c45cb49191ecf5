use Rattle.std.proofs.Common.{◌≡◌, take}
use Rattle.kept_records.specs.Summary.{cut_told}
use Rattle.log_bases.proofs.balance.cut_on.Given as goal

abbrev pub invariant-loop-told : goal.invariant-loop-told
invariant-loop-told l = l.total ≡ cut_told (take l.told-index l.cuts) l.field.0 l.kind
