-- What a fault tells of logs of which some are lost (this project).
use Rattle.std.specs.Prelude.{ℕ, List, Option}
use Rattle.field_bounds.specs.declared.kind.Kind.{Kind}
use Rattle.field_bounds.specs.Schema.{SchemaValue}
use Rattle.kept_records.specs.declared.record.Record.{Record}
use Rattle.world_logs.specs.declared.fault.WorldFault.{WorldFault}
use Rattle.world_logs.specs.declared.fault.WorldFault.TheVariants.{BreaksRule, AcceptedMore, TooMuch, NoMemory}
use Rattle.world_logs.specs.Logs.{AreLawful}
use Rattle.world_logs.specs.Faults.{IsGiven, IsFirstUnlawful, IsFirstExcess}
use Rattle.world_logs.specs.Lost.{lost_in, known_records, IsFirstTooMuch}
use Rattle.world_logs.specs.Body.{IsKnownPair}

-- No known site has accepted more from another than that has given it.
abbrev pub KnownWithin : SchemaValue → List (Option (List Record)) → Type 0
KnownWithin schema known =
    (from to f : ℕ) (k : Kind) → IsKnownPair schema (lost_in known) from to f → IsGiven (known_records known) from to f k

-- What a fault of the sums over the known sites tells.
abbrev pub TellsTooMuch : SchemaValue → List (Option (List Record)) → WorldFault → Type 0
TellsTooMuch schema known (BreaksRule site number) = ⊥
TellsTooMuch schema known (AcceptedMore excess) = ⊥
TellsTooMuch schema known (TooMuch field) = IsFirstTooMuch schema known field.0
TellsTooMuch schema known NoMemory = Unit {0}

-- What a fault of the known logs tells.
abbrev pub TellsKnownFault : SchemaValue → List (Option (List Record)) → WorldFault → Type 0
TellsKnownFault schema known (BreaksRule site number) = IsFirstUnlawful schema (known_records known) site.0 number
TellsKnownFault schema known (AcceptedMore excess) =
    AreLawful schema (known_records known) × IsFirstExcess (IsKnownPair schema (lost_in known)) (known_records known) excess
TellsKnownFault schema known (TooMuch field) = KnownWithin schema known × IsFirstTooMuch schema known field.0
TellsKnownFault schema known NoMemory = Unit {0}
