use Rattle.std.proofs.Common.{◌≡◌}
use Rattle.kept_records.specs.Summary.{rights_of}
use Rattle.log_replay.specs.After.{own_after}
use Rattle.log_replay.proofs.after.own_rights_after.Given as goal

abbrev pub invariant-loop-number : goal.invariant-loop-number
invariant-loop-number l = l.told.items ≡ rights_of (own_after l.rights l.next l.rise) l.number
