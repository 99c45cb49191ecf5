-- Parts that join to one log (this project).
use Rattle.std.specs.Prelude.{◌≡◌, ℕ, List, [], ◌∷◌, ◌++◌, Option, Some}
use Rattle.field_bounds.specs.Schema.{SchemaValue}
use Rattle.kept_records.specs.declared.record.Record.{Record}
use Rattle.kept_records.specs.Logs.{IsLog}
use Rattle.log_head.specs.declared.gone.Gone.{Gone}
use Rattle.log_archives.specs.Heads.{AreTold}
use Rattle.log_archives.specs.Joints.{AreFrom, Joins}

-- A part of which something is gone: what its head tells, and the bytes of its records.
pub record PartValue : Type 0 where
  pub gone : Gone
  pub held : List ℕ

-- Parts that join, each with the next one, and the last of them holds lawful records to its end: these are the records from the first part
-- on, of each part up to where the next one begins.
abbrev pub AreJoined : SchemaValue → ℕ → Option Gone → List ℕ → List PartValue → List Record → Type 0
AreJoined schema s gone held [] rs = (rest : List ℕ) × IsLog held rs rest × AreFrom schema s gone rs
AreJoined schema s gone held (p ∷ ps) rs =
    (joins : Joins schema s gone held p.gone p.held) × (tail : List Record) × (rs ≡ joins.front ++ tail)
    × AreJoined schema s (Some p.gone) p.held ps tail

-- Each of these heads tells rightly that a front of the records is gone, where these stand in front of all.
abbrev pub AreToldInTurn : List Record → List PartValue → List Record → Type 0
AreToldInTurn before [] rs = Unit {0}
AreToldInTurn before (p ∷ ps) rs =
    (front tail : List Record) × (rs ≡ front ++ tail) × AreTold p.gone (before ++ front) × AreToldInTurn (before ++ front) ps tail
