-- What a log that was taken in whole came to (this project).
use Rattle.std.specs.Prelude.{ℕ, List}
use Rattle.field_bounds.specs.Schema.{SchemaValue}
use Rattle.kept_records.specs.declared.record.Record.{Record}
use Rattle.kept_records.specs.Stands.{Lawful, BreaksRule as IsFirstBroken}
use Rattle.log_replay.specs.declared.log.Replayed.{Replayed}
use Rattle.log_replay.specs.declared.log.Replayed.TheVariants.{Standing, BreaksRule}
use Rattle.log_replay.specs.Standing.{IsStandingFor}

-- A standing says that the records are lawful, and is what they stand for.
abbrev pub TellsStanding : SchemaValue → ℕ → List Record → Replayed → Type 0
TellsStanding schema s rs (Standing standing) = Lawful schema s rs × IsStandingFor schema s rs standing
TellsStanding schema s rs (BreaksRule number) = Unit {0}

-- A number is that of the first record that may not stand behind those before it.
abbrev pub TellsBroken : SchemaValue → ℕ → List Record → Replayed → Type 0
TellsBroken schema s rs (Standing standing) = Unit {0}
TellsBroken schema s rs (BreaksRule number) = IsFirstBroken schema s rs number
