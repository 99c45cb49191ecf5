use Rattle.std.proofs.Common.{◌≡◌, ◌≤◌, length, take}
use Rattle.kept_records.specs.Stands.{plain}
use Rattle.kept_records.proofs.reading_back.count_plain.Given as goal

abbrev pub invariant-loop-record : goal.invariant-loop-record
invariant-loop-record l = (l.count ≡ length (plain (take l.record-index l.records))) × (l.count ≤ l.record-index)
