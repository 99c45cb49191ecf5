use Rattle.std.proofs.Common.{◌≡◌, take}
use Rattle.kept_records.specs.Stands.{Lawful}
use Rattle.log_replay.specs.Standing.{IsStandingFor}
use Rattle.log_replay.proofs.log.replay.Given as goal

-- the records so far are lawful, and the standing is for them
abbrev pub invariant-loop-record : goal.invariant-loop-record
invariant-loop-record l = record {
  count : l.number ≡ l.record-index;
  lawful : Lawful l.fn.schema l.fn.site.0 (take l.record-index l.fn.records);
  standing : IsStandingFor l.fn.schema l.fn.site.0 (take l.record-index l.fn.records) l.standing;
}
