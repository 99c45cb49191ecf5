-- The verdict on histories that are woven (this project). A history and a trace have the oldest entry first here.
use Rattle.std.specs.Prelude.{◌≡◌, ℕ, List, length, reverse, map}
use Rattle.field_bounds.specs.Schema.{SchemaValue}
use Rattle.field_bounds.specs.declared.entry.Entry.{Entry}
use Rattle.central_rules.specs.declared.verdict.Verdict.{Verdict}
use Rattle.central_rules.specs.Verdict.{verdict_of, read_for}
use Rattle.trace_weave.specs.Weave.{WeavesLowest, SticksAt, NoneWeaves}
use Rattle.trace_weave.specs.Turn.{HoldsBack, IsWoven}
use Rattle.woven_verdict.specs.declared.judged.Judged.{Judged}
use Rattle.woven_verdict.specs.declared.fault.VerdictFault.{VerdictFault}
use Rattle.woven_verdict.specs.declared.fault.VerdictFault.TheVariants.{Stuck, Unread, NoMemory}
use Rattle.woven_verdict.specs.Judged.{AreJudged}

-- Of no history an entry was taken yet.
abbrev pub none_taken : List (List Entry) → List ℕ
none_taken hs = map (λ h. 0) hs

-- What is told of histories: the verdict on the trace that weaves them by the lowest turns, and how many entries were judged
-- for it, all of them or those up to the first bad one.
pub record IsWovenVerdict (schema : SchemaValue) (hs : List (List Entry)) (told : Verdict × ℕ) : Type 0 where
  pub trace : List Entry
  pub woven : WeavesLowest hs (reverse trace)
  pub verdict : told.0 ≡ verdict_of schema trace
  pub count : told.1 ≡ read_for told.0 (length trace)

-- What a fault tells of histories: Stuck comes only where no trace weaves them, and names where the lowest turns end.
abbrev pub TellsStuck : List (List Entry) → VerdictFault → Type 0
TellsStuck hs (Stuck site number) = NoneWeaves hs × SticksAt hs site.0 number
TellsStuck hs Unread = Unit {0}
TellsStuck hs NoMemory = Unit {0}

-- So far: the lowest turns made this trace, of each history so many entries were placed, and the trace is judged. No public
-- clause cites what follows.
pub record IsPlaced (schema : SchemaValue) (hs : List (List Entry)) (counts : List ℕ) (trace : List Entry) (found : Judged)
    : Type 0 where
  pub len : length counts ≡ length hs
  pub woven : IsWoven hs counts (reverse trace)
  pub judged : AreJudged schema trace found

-- No history's next entry may stand.
abbrev pub NoneMay : List (List Entry) → List ℕ → List Entry → Type 0
NoneMay hs counts trace = (s : ℕ) → HoldsBack hs counts (reverse trace) s
