use Rattle.std.proofs.Common.{◌≡◌, ◌<◌, arith, List, length, sym, subst, ◌∙◌, None}
use Rattle.std.proofs.lemmas.Option.{slice_get-get_or}
use Rattle.field_bounds.specs.declared.entry.Entry.{Entry}
use Rattle.central_rules.specs.declared.verdict.Verdict.TheVariants.{Legal}
use Rattle.central_rules.specs.Verdict.{verdict_back}
use Rattle.central_rules.proofs.Fronts.{front_more}
use Rattle.central_machine.specs.declared.part.Part.TheVariants.{OnTotals}
use Rattle.central_machine.specs.FrontTotals.{AreTotals}
use Rattle.central_machine.specs.Parts.{front_of, part_rule}
use Rattle.central_machine.proofs.Found.{legal_parts, long_front, next_passed, no_fault, fault_at}
use Rattle.central_machine.proofs.total_faults.totals_fault.Goals as goal

pub loop-place-init : goal.loop-place-init
loop-place-init c = record {
  totals = λ legal. c.in_ok-totals.ensures;
  passed = λ j e before at legal. absurd (omega (arith, before));
}

pub loop-place-preserved : goal.loop-place-preserved
loop-place-preserved c =
    let schema = c.args.schema.now in
    let entries = c.args.entries.now in
    let i = c.loop-place.place in
    let was = c.loop-place.invariant in
    let below : i < length entries = omega arith in
    let more = front_more entries i _ below in
    let few = c.length_of-few.ensures.few in
    record {
      totals = λ legal.
          let parts = legal_parts schema _ (front_of entries i) (subst (λ (t : List Entry). verdict_back schema t ≡ Legal) more legal) in
          let long = long_front entries i (omega (arith, below)) in
          subst (λ (t : List Entry). AreTotals schema t c.take_in.new.self) (sym more)
          (c.in_ok-rule.ensures.totals (front_of entries i) (omega (arith, long, few, below)) (was.totals parts.0) parts.0 c.in_default.is parts.1);
      passed = next_passed (λ j e. verdict_back schema (front_of entries j) ≡ Legal → part_rule schema (front_of entries j) e OnTotals ≡ None)
          entries i _ below was.passed
          (λ legal. sym (c.in_ok-rule.ensures.rule (front_of entries i) (was.totals legal)) ∙ c.in_default.is);
    }

pub returns-in-Some : goal.returns-in-Some
returns-in-Some c =
    let schema = c.args.schema.now in
    let entries = c.args.entries.now in
    let i = c.loop-place.place in
    let was = c.loop-place.invariant in
    let fails = λ (legal : verdict_back schema (front_of entries i) ≡ Legal).
    sym (c.in_ok-rule.ensures.rule (front_of entries i) (was.totals legal)) ∙ c.in-Some.is in
    fault_at schema entries OnTotals i c.in-Some.rule _ (slice_get-get_or entries i _ (omega arith))
    (λ j e before at legal. was.passed j e before at legal) fails

pub returns : goal.returns
returns c = no_fault c.args.schema.now c.args.entries.now OnTotals
    (λ i e below at legal. c.loop-place.invariant.passed i e (omega (arith, below)) at legal)
