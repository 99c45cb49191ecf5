-- Over which log a service is opened whose front was let go, and what it finds there (this project).
use Rattle.std.specs.Prelude.{◌≡◌, ◌⊎◌, ℕ, List, [], ◌++◌, Option, Some}
use Rattle.std.specs.List.{flat_map}
use Rattle.field_bounds.specs.Schema.{SchemaValue}
use Rattle.field_bounds.specs.declared.id.SiteNo.{SiteNo}
use Rattle.kept_records.specs.declared.record.Record.{Record}
use Rattle.kept_records.specs.Summary.{SummaryValue}
use Rattle.kept_records.specs.Text.{text}
use Rattle.log_bases.specs.Bases.{IsPast}
use Rattle.log_head.specs.declared.gone.Gone.{Gone}
use Rattle.site_step.specs.Site.{SiteValue, Opens}
use Rattle.site_step.specs.Opening.{StartsWith, TellsLineBehind, SparesLogsBehind}
use Rattle.site_step.specs.declared.site.opening.OpenFault.{OpenFault}
use Rattle.site_step.specs.declared.site.opening.OpenFault.TheVariants.{Device, Line, NoMemory}
use Rattle.site_service.specs.Kept.{LastNotes}
use Rattle.site_service.specs.LetGo.{IsTold, let_go_of}
use Rattle.site_service.specs.Opening.{HoldsRecords, IsStarted}
use Rattle.site_service.specs.Service.{ServiceValue}

-- The records begin with a base, in front of which some lawful records may stand; and a site stands on both, and those are gone of its
-- log. Which ones they are makes no difference to what it answers (`pasts_answer_alike`).
pub record OpensBehind (schema : SchemaValue) (number : SiteNo) (records : List ℕ) (v : SiteValue) : Type 0 where
  pub base : SummaryValue
  pub first : StartsWith records base
  pub past : IsPast schema number.0 base v.gone
  pub opens : Opens schema number (flat_map text v.gone ++ records) 0 v

-- A service over the whole lines of a log of which this is told to be gone: it is told rightly of those records.
pub record IsOpenedBehind (schema : SchemaValue) (number : SiteNo) (told : Gone) (known : Option (List ℕ)) (v : ServiceValue) : Type 0 where
  pub held : List ℕ
  pub last : LastNotes
  pub records : List ℕ
  pub holds : HoldsRecords known held last records
  pub opened : SiteValue
  pub opens : OpensBehind schema number records opened
  pub is_told : IsTold (let_go_of opened.gone (Some told))
  pub started : IsStarted (record opened { gone = [] }) last (let_go_of opened.gone (Some told)) v

-- ---- what refuses it

-- It is line 1, and the records begin with no summary in front of which any lawful records may stand.
abbrev pub IsBadBase : SchemaValue → SiteNo → List ℕ → OpenFault → Type 0
IsBadBase schema number records (Line n) =
    (n ≡ 1) × ((base : SummaryValue) → StartsWith records base → (past : List Record) → IsPast schema number.0 base past → ⊥)
IsBadBase schema number records Device = ⊥
IsBadBase schema number records NoMemory = Unit {0}

-- A line is named that is the first bad one behind a base and some records that it may stand behind, whose lines aren't counted.
pub record NamesBehind (schema : SchemaValue) (number : SiteNo) (records : List ℕ) (n : ℕ) : Type 0 where
  pub base : SummaryValue
  pub first : StartsWith records base
  pub past : List Record
  pub is_past : IsPast schema number.0 base past
  pub tells : TellsLineBehind schema number.0 past records (Line n)
  pub spares : SparesLogsBehind schema number.0 past records (Line n)

abbrev pub IsBadBehind : SchemaValue → SiteNo → List ℕ → OpenFault → Type 0
IsBadBehind schema number records (Line n) = IsBadBase schema number records (Line n) ⊎ NamesBehind schema number records n
IsBadBehind schema number records Device = Unit {0}
IsBadBehind schema number records NoMemory = Unit {0}

pub record NamesBadBehind (schema : SchemaValue) (number : SiteNo) (known : Option (List ℕ)) (n : ℕ) : Type 0 where
  pub held : List ℕ
  pub last : LastNotes
  pub records : List ℕ
  pub holds : HoldsRecords known held last records
  pub bad : IsBadBehind schema number records (Line n)

abbrev pub TellsBadBehind : SchemaValue → SiteNo → Option (List ℕ) → OpenFault → Type 0
TellsBadBehind schema number known (Line n) = NamesBadBehind schema number known n
TellsBadBehind schema number known Device = Unit {0}
TellsBadBehind schema number known NoMemory = Unit {0}
