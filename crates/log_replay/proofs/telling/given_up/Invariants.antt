use Rattle.std.proofs.Common.{◌≡◌}
use Rattle.kept_records.specs.Summary.{cuts_of}
use Rattle.log_replay.specs.Telling.{cut_with}
use Rattle.log_replay.proofs.telling.given_up.Given as goal

abbrev pub invariant-loop-number : goal.invariant-loop-number
invariant-loop-number l = l.told.items ≡ cuts_of (cut_with l.anew l.rights) l.number
