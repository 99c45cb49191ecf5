use Rattle.std.proofs.Common.{◌≡◌}
use Rattle.kept_records.specs.Summary.{rights_of}
use Rattle.site_rights.specs.Rights.{own_at}
use Rattle.log_replay.proofs.telling.own_rights.Given as goal

abbrev pub invariant-loop-number : goal.invariant-loop-number
invariant-loop-number l = l.told.items ≡ rights_of (own_at l.rights) l.number
