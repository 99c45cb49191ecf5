-- How far the entries of an input are judged (this project).
use Rattle.std.specs.Prelude.{◌≡◌, List, []}
use Rattle.field_bounds.specs.Schema.{SchemaValue}
use Rattle.field_bounds.specs.declared.entry.Entry.{Entry}
use Rattle.central_rules.specs.declared.verdict.Verdict.TheVariants as verdicts
use Rattle.central_rules.specs.Verdict.{verdict_of}
use Rattle.central_machine.specs.Front.{HasJudged}
use Rattle.escrow_audit.specs.declared.taking.JudgedEntries.{JudgedEntries}
use Rattle.escrow_audit.specs.declared.taking.JudgedEntries.TheVariants.{Fresh, Legal, Illegal, NoMemory}

-- The entries, the oldest first, were judged: there is none yet, the judge has taken in all of them, or this is the verdict on
-- them. Where memory was wanting nothing is said.
abbrev pub AreJudged : SchemaValue → List Entry → JudgedEntries → Type 0
AreJudged schema entries Fresh = entries ≡ []
AreJudged schema entries (Legal judge) = HasJudged schema entries judge
AreJudged schema entries (Illegal at rule) = verdict_of schema entries ≡ verdicts.Illegal at rule
AreJudged schema entries NoMemory = Unit {0}
