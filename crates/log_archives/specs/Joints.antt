-- Where a part of a log and the next one join (this project).
use Rattle.std.specs.Prelude.{◌≡◌, ◌≢◌, ◌⊎◌, ℕ, ◌+◌, ◌<◌, ◌≤◌, ◌&&◌, false, List, [], ◌∷◌, ◌++◌, length, take, Option, None, Some}
use Rattle.std.specs.List.{flat_map, AllByRecursion}
use Rattle.field_bounds.specs.Schema.{SchemaValue}
use Rattle.kept_records.specs.declared.record.Record.{Record}
use Rattle.kept_records.specs.Text.{text, IsRecord}
use Rattle.kept_records.specs.Lines.{IsRecordAt, Begins}
use Rattle.kept_records.specs.Logs.{IsLog}
use Rattle.kept_records.specs.Stands.{Lawful, plain}
use Rattle.kept_records.specs.Summary.{SummaryValue, summary_record}
use Rattle.log_replay.specs.declared.log_bytes.LogReplayed.{LogReplayed}
use Rattle.log_replay.specs.declared.log_bytes.LogReplayed.TheVariants as came
use Rattle.log_head.specs.declared.gone.Gone.{Gone}
use Rattle.log_head.specs.Horizons.{HorizonValue}
use Rattle.folder_logs.specs.First.{TellsFirst}
use Rattle.held_logs.specs.Behind.{AreLawfulBehind, HasNoFirst, StartsWith, TellsBehind}
use Rattle.log_archives.specs.declared.fault.JointFault.{JointFault}
use Rattle.log_archives.specs.declared.fault.JointFault.TheVariants.{BadLine, BreaksRule, Short, OtherBase, OtherBytes, OtherRecords, OtherHorizon}
use Rattle.log_archives.specs.declared.finding.BaseFound.{BaseFound}
use Rattle.log_archives.specs.declared.finding.BaseFound.TheVariants as found
use Rattle.log_archives.specs.declared.survey.Seen.{Seen}
use Rattle.log_archives.specs.Heads.{TellsMore, all_may_go, bytes_told, goes_on, records_told}

-- ---- what stands from a part on

-- The records begin with a base that has a past, and are lawful behind each.
pub record AreBehindBase (schema : SchemaValue) (s : ℕ) (rs : List Record) : Type 0 where
  pub base : SummaryValue
  pub behind : List Record
  pub first : rs ≡ summary_record base ∷ behind
  pub lawful : AreLawfulBehind schema s base rs

-- Records from the first one of a part on: where nothing is gone they are lawful; else they begin with a base, and are so behind it.
abbrev pub AreFrom : SchemaValue → ℕ → Option Gone → List Record → Type 0
AreFrom schema s None rs = Lawful schema s rs
AreFrom schema s (Some gone) rs = AreBehindBase schema s rs

-- What the answer tells of the bytes of records in front of which this is gone.
abbrev pub TellsHeld : SchemaValue → ℕ → Option Gone → List ℕ → LogReplayed → Type 0
TellsHeld schema s None bytes replayed = TellsFirst schema s bytes replayed
TellsHeld schema s (Some gone) bytes replayed = TellsBehind schema s bytes replayed

-- ---- two parts

-- The next part, in front of which this is told to be gone, goes on where a front of this one ends, of one record or more: there the base
-- of the next one stands in this one too; what stands up to and with it is lawful; and what is told is right of the front.
pub record Joins (schema : SchemaValue) (s : ℕ) (gone : Option Gone) (held : List ℕ) (told : Gone) (next : List ℕ) : Type 0 where
  pub front : List Record
  pub base : SummaryValue
  pub left : List ℕ
  pub behind : List ℕ
  pub some : front ≢ []
  pub held_is : held ≡ flat_map text front ++ (text (summary_record base) ++ left)
  pub each : AllByRecursion IsRecord front
  pub next_is : IsRecordAt next (summary_record base) behind
  pub lawful : AreFrom schema s gone (front ++ summary_record base ∷ [])
  pub tells : TellsMore gone told front

-- ---- why two parts don't join

-- This line, so long, stands in the part at this place, which is the one that is told, and not its beginning.
pub record HasLineAt (gone : Option Gone) (held : List ℕ) (told : Gone) (line : List ℕ) (cut n : ℕ) : Type 0 where
  pub front : List ℕ
  pub left : List ℕ
  pub held_is : held ≡ front ++ (line ++ left)
  pub cut_is : cut ≡ length front
  pub size : n ≡ length line
  pub some : 0 < cut
  pub place : told.bytes ≡ bytes_told gone + cut

-- The base of the next part, so long, stands in the part at this place.
pub record HasBaseAt (gone : Option Gone) (held : List ℕ) (told : Gone) (next : List ℕ) (cut n : ℕ) : Type 0 where
  pub base : SummaryValue
  pub behind : List ℕ
  pub next_is : IsRecordAt next (summary_record base) behind
  pub there : HasLineAt gone held told (text (summary_record base)) cut n

-- The lines of the part up to and with the base of the next one come to this.
pub record LinesComeTo (schema : SchemaValue) (s : ℕ) (gone : Option Gone) (held : List ℕ) (told : Gone) (next : List ℕ) (replayed : LogReplayed)
    : Type 0 where
  pub cut : ℕ
  pub size : ℕ
  pub at : HasBaseAt gone held told next cut size
  pub comes : TellsHeld schema s gone (take (cut + size) held) replayed

-- The part ends in front of the place that is told, or within the base that stands there in the next.
pub record EndsBefore (gone : Option Gone) (held : List ℕ) (told : Gone) (next : List ℕ) : Type 0 where
  pub base : SummaryValue
  pub next_is : StartsWith next base
  pub few : bytes_told gone + length held < told.bytes + length (text (summary_record base))

-- The front of the part is so long as is told.
pub record IsFront (gone : Option Gone) (held : List ℕ) (told : Gone) (front : List ℕ) : Type 0 where
  pub left : List ℕ
  pub held_is : held ≡ front ++ left
  pub size : told.bytes ≡ bytes_told gone + length front

-- At the place that is told another line stands than the base of the next.
pub record HasOtherBase (gone : Option Gone) (held : List ℕ) (told : Gone) (next : List ℕ) : Type 0 where
  pub base : SummaryValue
  pub next_is : StartsWith next base
  pub front : List ℕ
  pub is_front : IsFront gone held told front
  pub none : (left : List ℕ) → is_front.left ≢ text (summary_record base) ++ left

-- The next part doesn't begin with a base.
abbrev pub HasNoBase : List ℕ → Type 0
HasNoBase next = (base : SummaryValue) → StartsWith next base → ⊥

-- What a head tells is wrong of a front: it ends in no record; or so many records aren't in it; or a commit of it may not be gone by the
-- horizon, or one that might be before.
abbrev pub TellsWrongly : Option Gone → List ℕ → Gone → JointFault → Type 0
TellsWrongly _ _ _ (BadLine _) = ⊥
TellsWrongly _ _ _ (BreaksRule _) = ⊥
TellsWrongly _ _ _ Short = ⊥
TellsWrongly _ _ _ OtherBase = ⊥
TellsWrongly _ front _ OtherBytes = (rs : List Record) × (left : List ℕ) × Begins front rs left × (left ≢ []) × HasNoFirst left
TellsWrongly gone front told OtherRecords =
    (rs : List Record) × Begins front rs [] × (told.records ≢ records_told gone + length (plain rs))
TellsWrongly gone front told OtherHorizon =
    (rs : List Record) × Begins front rs [] × ((all_may_go told.horizon rs && goes_on gone told.horizon) ≡ false)

-- The same of the front of a part.
abbrev pub HasWrongHead : Option Gone → List ℕ → Gone → JointFault → Type 0
HasWrongHead gone held told fault = (front : List ℕ) × IsFront gone held told front × TellsWrongly gone front told fault

-- Why they don't: the first line of the front that is no record, or breaks a rule, the base of the next included; or the part is too
-- short; or has no such base there; or the head of the next tells wrongly.
abbrev pub IsJointFault : SchemaValue → ℕ → Option Gone → List ℕ → Gone → List ℕ → JointFault → Type 0
IsJointFault schema s gone held told next (BadLine number) = LinesComeTo schema s gone held told next (came.BadLine number)
IsJointFault schema s gone held told next (BreaksRule number) = LinesComeTo schema s gone held told next (came.BreaksRule number)
IsJointFault schema s gone held told next Short = EndsBefore gone held told next
IsJointFault schema s gone held told next OtherBase = HasNoBase next ⊎ HasOtherBase gone held told next
IsJointFault schema s gone held told next OtherBytes = (told.bytes ≤ bytes_told gone) ⊎ HasWrongHead gone held told OtherBytes
IsJointFault schema s gone held told next OtherRecords = HasWrongHead gone held told OtherRecords
IsJointFault schema s gone held told next OtherHorizon = HasWrongHead gone held told OtherHorizon

-- ---- how the bodies go on

-- The bytes begin with a base, so long.
abbrev pub HasBase : List ℕ → ℕ → Type 0
HasBase bytes n = (base : SummaryValue) × (behind : List ℕ) × IsRecordAt bytes (summary_record base) behind × (n ≡ length (text (summary_record base)))

-- Another line stands at the place that is told.
pub record HasOtherLine (gone : Option Gone) (held : List ℕ) (told : Gone) (line : List ℕ) : Type 0 where
  pub front : List ℕ
  pub is_front : IsFront gone held told front
  pub none : (left : List ℕ) → is_front.left ≢ line ++ left

-- Where a line stands, or why it doesn't.
abbrev pub FindsLine : Option Gone → List ℕ → Gone → List ℕ → BaseFound → Type 0
FindsLine gone held told line (found.At cut base) = HasLineAt gone held told line cut base
FindsLine gone held told line found.Short = bytes_told gone + length held < told.bytes + length line
FindsLine gone held told line found.OtherBase = HasOtherLine gone held told line
FindsLine gone held told line found.OtherBytes = told.bytes ≤ bytes_told gone

-- Where the base stands, or why it doesn't.
abbrev pub FindsBase : Option Gone → List ℕ → Gone → List ℕ → BaseFound → Type 0
FindsBase gone held told next (found.At cut base) = HasBaseAt gone held told next cut base
FindsBase gone held told next found.Short = EndsBefore gone held told next
FindsBase gone held told next found.OtherBase = HasNoBase next ⊎ HasOtherBase gone held told next
FindsBase gone held told next found.OtherBytes = told.bytes ≤ bytes_told gone

-- The lines are records, and lawful where this is gone in front of them.
abbrev pub HasLines : SchemaValue → ℕ → Option Gone → List ℕ → Type 0
HasLines schema s gone bytes = (rs : List Record) → IsLog bytes rs [] → AreFrom schema s gone rs

-- What a fault tells of lines.
abbrev pub TellsLines : SchemaValue → ℕ → Option Gone → List ℕ → JointFault → Type 0
TellsLines schema s gone bytes (BadLine number) = TellsHeld schema s gone bytes (came.BadLine number)
TellsLines schema s gone bytes (BreaksRule number) = TellsHeld schema s gone bytes (came.BreaksRule number)
TellsLines _ _ _ _ Short = ⊥
TellsLines _ _ _ _ OtherBase = ⊥
TellsLines _ _ _ _ OtherBytes = ⊥
TellsLines _ _ _ _ OtherRecords = ⊥
TellsLines _ _ _ _ OtherHorizon = ⊥

-- The front is records, and what is told is right once they are gone too.
abbrev pub HeadTells : Option Gone → List ℕ → Gone → Type 0
HeadTells gone front told = (rs : List Record) × Begins front rs [] × TellsMore gone told rs

-- The records at the front of bytes, up to the first line that is none, were looked at.
pub record IsSurvey (h : HorizonValue) (bytes : List ℕ) (told : Seen) : Type 0 where
  pub records : List Record
  pub left : List ℕ
  pub begins : Begins bytes records left
  pub stops : HasNoFirst left
  pub size : told.left ≡ length left
  pub others : told.plain ≡ length (plain records)
  pub passed : told.all_may_go ≡ all_may_go h records
