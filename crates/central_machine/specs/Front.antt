-- What a judge stands for that is given the entries of a trace one by one (this project).
use Rattle.std.specs.Prelude.{◌≡◌, ◌≤◌, ◌^◌, List, length, reverse}
use Rattle.field_bounds.specs.declared.entry.Entry.{Entry}
use Rattle.field_bounds.specs.Schema.{SchemaValue}
use Rattle.central_rules.specs.declared.verdict.Verdict.TheVariants.{Legal}
use Rattle.central_rules.specs.Verdict.{verdict_of}
use Rattle.central_machine.specs.declared.front_judge.FrontJudge.{FrontJudge}
use Rattle.central_machine.specs.FrontTotals.{AreRunning}

-- The judge has taken in these entries, the oldest first: they are legal, it has counted them, and its totals are theirs.
pub record HasJudged (schema : SchemaValue) (entries : List Entry) (judge : FrontJudge) : Type 0 where
  pub legal : verdict_of schema entries ≡ Legal
  pub count : judge.count ≡ length entries
  pub totals : AreRunning schema (reverse entries) judge.running

-- The judge takes in no entry any more: it has counted as many as there may be, or memory was wanting.
abbrev pub IsSpent : FrontJudge → Type 0
IsSpent judge = 2 ^ 57 ≤ judge.count
