use Rattle.std.proofs.Common.{◌≡◌, sym, subst, ◌∙◌, arith, List, None}
use Rattle.std.proofs.lemmas.Option.{slice_get-get_or}
use Rattle.field_bounds.specs.declared.entry.Entry.{Entry}
use Rattle.central_rules.proofs.Fronts.{front_more}
use Rattle.central_machine.specs.declared.part.Part.TheVariants.{Statements}
use Rattle.statement_set.specs.Issued.{HasIssued}
use Rattle.central_machine.specs.Parts.{front_of, part_rule}
use Rattle.central_machine.proofs.Found.{next_passed, no_fault, fault_at}
use Rattle.central_machine.proofs.statement_faults.statements_fault.Goals as goal

pub loop-place-preserved : goal.loop-place-preserved
loop-place-preserved c =
    let schema = c.args.schema.now in
    let entries = c.args.entries.now in
    let i = c.loop-place.place in
    let was = c.loop-place.invariant in
    let holds = sym (c.statements_broken.ensures (front_of entries i) was.issued) ∙ c.in_default.is in
    record {
      issued = subst (λ (t : List Entry). HasIssued c.note.new.issued t) (sym (front_more entries i _ (omega arith)))
          (c.in_ok-note.ensures (front_of entries i) was.issued);
      passed = next_passed (λ j e. part_rule schema (front_of entries j) e Statements ≡ None) entries i _ (omega arith) was.passed holds;
    }

pub returns-in-Some : goal.returns-in-Some
returns-in-Some c =
    let schema = c.args.schema.now in
    let entries = c.args.entries.now in
    let i = c.loop-place.place in
    let was = c.loop-place.invariant in
    let fails = sym (c.statements_broken.ensures (front_of entries i) was.issued) ∙ c.in-Some.is in
    fault_at schema entries Statements i c.in-Some.rule _ (slice_get-get_or entries i _ (omega arith))
    (λ j e before at legal. was.passed j e before at) (λ legal. fails)

pub returns : goal.returns
returns c = no_fault c.args.schema.now c.args.entries.now Statements
    (λ i e below at legal. c.loop-place.invariant.passed i e (omega (arith, below)) at)
