use Rattle.std.proofs.Common.{◌≡◌, length}
use Rattle.kept_records.specs.Summary.{totals_of}
use Rattle.log_replay.specs.Telling.{side_with}
use Rattle.log_replay.proofs.telling.totals_on_side.Given as goal

abbrev pub invariant-loop-number : goal.invariant-loop-number
invariant-loop-number l = l.totals.items ≡ totals_of (side_with l.anew l.given l.ledger) l.ledger.site (length l.schema.fields) l.number
