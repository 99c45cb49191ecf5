use Rattle.std.proofs.Common.{ℕ, ◌<◌, List}
use Rattle.field_bounds.specs.declared.kind.Kind.{Kind}
use Rattle.kept_records.specs.declared.record.Record.{Record}
use Rattle.world_logs.specs.Faults.{IsGiven}
use Rattle.world_logs.specs.Body.{StandFor, IsKnownPair}
use Rattle.world_logs.proofs.excess_search.first_at.Given as goal

-- there is none from the sites so far
abbrev pub invariant-loop-number : goal.invariant-loop-number
invariant-loop-number l =
    (logs : List (List Record)) → StandFor l.schema logs l.standings → (from f : ℕ) (k : Kind) → from < l.number
    → IsKnownPair l.schema l.lost from l.to.0 f → IsGiven logs from l.to.0 f k
