use Rattle.std.proofs.Common.{ℕ}
use Rattle.std.specs.List.{AllByRecursion}
use Rattle.kept_records.specs.Text.{IsRecord}
use Rattle.world_logs.specs.Logs.{log_of}
use Rattle.world_logs.specs.Lost.{known_of, known_records}
use Rattle.folder_tests.proofs.of_world_logs.read_known.Given as goal

-- the records of the logs so far lie in their ranges
abbrev pub invariant-loop-text : goal.invariant-loop-text
invariant-loop-text l = (s : ℕ) → AllByRecursion IsRecord (log_of (known_records (known_of l.logs.items)) s)
