-- How far the entries of a woven trace are judged (this project).
use Rattle.std.specs.Prelude.{◌≡◌, List}
use Rattle.field_bounds.specs.Schema.{SchemaValue}
use Rattle.field_bounds.specs.declared.entry.Entry.{Entry}
use Rattle.central_rules.specs.declared.verdict.Verdict.TheVariants as verdicts
use Rattle.central_rules.specs.Verdict.{verdict_of}
use Rattle.central_machine.specs.Front.{HasJudged}
use Rattle.woven_verdict.specs.declared.judged.Judged.{Judged}
use Rattle.woven_verdict.specs.declared.judged.Judged.TheVariants.{Legal, Illegal}

-- The entries, the oldest first, were judged: the judge has taken in all of them, or this is the verdict on them.
abbrev pub AreJudged : SchemaValue → List Entry → Judged → Type 0
AreJudged schema entries (Legal judge) = HasJudged schema entries judge
AreJudged schema entries (Illegal at rule) = verdict_of schema entries ≡ verdicts.Illegal at rule
