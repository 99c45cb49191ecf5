-- What a fault tells of the logs of a world (this project).
use Rattle.std.specs.Prelude.{◌≡◌, ℕ, ◌<◌, ◌≤◌, List}
use Rattle.field_bounds.specs.declared.kind.Kind.{Kind}
use Rattle.field_bounds.specs.declared.kind.Kind.TheVariants.{Lower, Raise}
use Rattle.field_bounds.specs.Schema.{SchemaValue}
use Rattle.kept_records.specs.declared.record.Record.{Record}
use Rattle.kept_records.specs.Stands.{Lawful, BreaksRule as IsFirstBroken}
use Rattle.world_logs.specs.declared.fault.Excess.{Excess}
use Rattle.world_logs.specs.declared.fault.WorldFault.{WorldFault}
use Rattle.world_logs.specs.declared.fault.WorldFault.TheVariants.{BreaksRule, AcceptedMore, TooMuch, NoMemory}
use Rattle.world_logs.specs.Logs.{log_of, AreLawful, given_between, accepted_between, IsPair}

-- The site is the lowest whose log isn't lawful, and the record of this number the first that breaks a rule there.
pub record IsFirstUnlawful (schema : SchemaValue) (logs : List (List Record)) (s n : ℕ) : Type 0 where
  pub site_in : s < schema.sites
  pub broken : IsFirstBroken schema s (log_of logs s) n
  pub before : (t : ℕ) → t < s → Lawful schema t (log_of logs t)

-- So much was accepted and so much given, by the logs of the two sites, and that is more than was given.
pub record IsExcess (logs : List (List Record)) (e : Excess) : Type 0 where
  pub given : e.given ≡ given_between logs e.from.0 e.to.0 e.field.0 e.kind
  pub accepted : e.accepted ≡ accepted_between logs e.from.0 e.to.0 e.field.0 e.kind
  pub more : e.given < e.accepted

-- No more was accepted than given.
abbrev pub IsGiven : List (List Record) → ℕ → ℕ → ℕ → Kind → Type 0
IsGiven logs from to f k = accepted_between logs from to f k ≤ given_between logs from to f k

-- It is the first excess among these pairs of sites, on these fields: there is none at a lower site that accepted, and at
-- that site none from a lower site, and from that none on a lower field, and on that none of lowering rights where it is of
-- raising ones.
pub record IsFirstExcess (Among : ℕ → ℕ → ℕ → Type 0) (logs : List (List Record)) (e : Excess) : Type 0 where
  pub pair : Among e.from.0 e.to.0 e.field.0
  pub excess : IsExcess logs e
  pub receivers : (from to f : ℕ) (k : Kind) → to < e.to.0 → Among from to f → IsGiven logs from to f k
  pub givers : (from f : ℕ) (k : Kind) → from < e.from.0 → Among from e.to.0 f → IsGiven logs from e.to.0 f k
  pub fields : (f : ℕ) (k : Kind) → f < e.field.0 → IsGiven logs e.from.0 e.to.0 f k
  pub kinds : e.kind ≡ Raise → IsGiven logs e.from.0 e.to.0 e.field.0 Lower

-- What a fault of one log tells.
abbrev pub TellsOfLog : SchemaValue → ℕ → List Record → WorldFault → Type 0
TellsOfLog schema s rs (BreaksRule site number) = (site.0 ≡ s) × IsFirstBroken schema s rs number
TellsOfLog schema s rs (AcceptedMore excess) = ⊥
TellsOfLog schema s rs (TooMuch field) = ⊥
TellsOfLog schema s rs NoMemory = Unit {0}

-- What a fault of the logs, each by itself, tells.
abbrev pub TellsUnlawful : SchemaValue → List (List Record) → WorldFault → Type 0
TellsUnlawful schema logs (BreaksRule site number) = IsFirstUnlawful schema logs site.0 number
TellsUnlawful schema logs (AcceptedMore excess) = ⊥
TellsUnlawful schema logs (TooMuch field) = ⊥
TellsUnlawful schema logs NoMemory = Unit {0}

-- What a fault of the logs together tells.
abbrev pub TellsFault : SchemaValue → List (List Record) → WorldFault → Type 0
TellsFault schema logs (BreaksRule site number) = IsFirstUnlawful schema logs site.0 number
TellsFault schema logs (AcceptedMore excess) = AreLawful schema logs × IsFirstExcess (IsPair schema) logs excess
TellsFault schema logs (TooMuch field) = ⊥
TellsFault schema logs NoMemory = Unit {0}
