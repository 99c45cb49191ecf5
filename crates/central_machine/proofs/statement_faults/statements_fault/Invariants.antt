use Rattle.std.proofs.Common.{◌≡◌, ℕ, ◌<◌, Some, None}
use Rattle.std.specs.Prelude.{slice_get}
use Rattle.field_bounds.specs.declared.entry.Entry.{Entry}
use Rattle.central_machine.specs.declared.part.Part.TheVariants.{Statements}
use Rattle.statement_set.specs.Issued.{HasIssued}
use Rattle.central_machine.specs.Parts.{front_of, part_rule}
use Rattle.central_machine.proofs.statement_faults.statements_fault.Given as goal

abbrev pub invariant-loop-place : goal.invariant-loop-place
invariant-loop-place l = record {
  issued : HasIssued l.issued (front_of l.entries l.place);
  passed : (j : ℕ) (e : Entry) → j < l.place → slice_get l.entries j ≡ Some e → part_rule l.schema (front_of l.entries j) e Statements ≡ None;
}
