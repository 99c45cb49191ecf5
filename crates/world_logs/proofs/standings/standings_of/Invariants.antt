use Rattle.std.proofs.Common.{◌≡◌, ℕ, ◌<◌, length, map, get_or}
use Rattle.kept_records.specs.Stands.{Lawful}
use Rattle.log_replay.specs.declared.standing.Standing.{Standing}
use Rattle.log_replay.specs.Standing.{IsStandingFor}
use Rattle.world_logs.specs.Logs.{log_of}
use Rattle.world_logs.proofs.standings.standings_of.Given as goal

-- the logs of the sites so far are lawful, and the standings are for them
abbrev pub invariant-loop-number : goal.invariant-loop-number
invariant-loop-number g l = record {
  count : length l.standings.items ≡ l.number;
  lawful : (s : ℕ) → s < l.number → Lawful l.schema s (log_of (map g.L.KeptLog.kept l.logs) s);
  each : (s : ℕ) (d : Standing) → s < l.number → IsStandingFor l.schema s (log_of (map g.L.KeptLog.kept l.logs) s) (get_or l.standings.items s d);
}
