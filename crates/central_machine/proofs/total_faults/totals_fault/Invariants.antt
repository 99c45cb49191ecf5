use Rattle.std.proofs.Common.{◌≡◌, ℕ, ◌<◌, Some, None}
use Rattle.std.specs.Prelude.{slice_get}
use Rattle.field_bounds.specs.declared.entry.Entry.{Entry}
use Rattle.central_rules.specs.declared.verdict.Verdict.TheVariants.{Legal}
use Rattle.central_rules.specs.Verdict.{verdict_back}
use Rattle.central_machine.specs.declared.part.Part.TheVariants.{OnTotals}
use Rattle.central_machine.specs.FrontTotals.{AreTotals}
use Rattle.central_machine.specs.Parts.{front_of, part_rule}
use Rattle.central_machine.proofs.total_faults.totals_fault.Given as goal

abbrev pub invariant-loop-place : goal.invariant-loop-place
invariant-loop-place l = record {
  totals : verdict_back l.schema (front_of l.entries l.place) ≡ Legal → AreTotals l.schema (front_of l.entries l.place) l.totals;
  passed : (j : ℕ) (e : Entry) → j < l.place → slice_get l.entries j ≡ Some e → verdict_back l.schema (front_of l.entries j) ≡ Legal
      → part_rule l.schema (front_of l.entries j) e OnTotals ≡ None;
}
