use Rattle.std.proofs.Common.{ℕ, ◌<◌, List}
use Rattle.field_bounds.specs.declared.kind.Kind.{Kind}
use Rattle.kept_records.specs.declared.record.Record.{Record}
use Rattle.world_logs.specs.Faults.{IsGiven}
use Rattle.world_logs.specs.Body.{StandFor}
use Rattle.world_logs.proofs.excess_search.first_between.Given as goal

-- there is none on the fields so far
abbrev pub invariant-loop-number : goal.invariant-loop-number
invariant-loop-number l =
    (logs : List (List Record)) → StandFor l.schema logs l.standings → (f : ℕ) (k : Kind) → f < l.number → IsGiven logs l.from.0 l.to.0 f k
