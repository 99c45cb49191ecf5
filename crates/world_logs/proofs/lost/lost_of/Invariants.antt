use Rattle.std.proofs.Common.{◌≡◌, map, take}
use Rattle.std.specs.Prelude.{is_none}
use Rattle.world_logs.proofs.lost.lost_of.Given as goal

abbrev pub invariant-loop-log : goal.invariant-loop-log
invariant-loop-log g l = l.lost.items ≡ map (λ log. is_none log) (take l.log-index l.logs)
