use Rattle.std.proofs.Common.{ℕ, List, subst}
use Rattle.log_archives.specs.Joints.{IsJointFault, Joins}
use Rattle.log_archives.proofs.Joins.{if_none, joins, of_lines}
use Rattle.log_archives.proofs.joint.check_joint.Goals as goal

pub returns-in-Some-clause-fault : goal.returns-in-Some-clause-fault
returns-in-Some-clause-fault c =
    let gone = c.args.part.now.gone in
    let held = c.as_slice-held.result.now in
    let told = c.args.told.now in
    let next = c.args.next.now in
    let at = rw c.in-At.is at c.in_ok-cut.ensures.found in
    let fault = rw c.in-Some.is at c.in_ok-fault.ensures.fault in
    subst (λ (l : List ℕ). IsJointFault c.args.schema.now c.args.site.0 gone l told next c.in-Some.fault) c.as_slice-held.ensures.bytes
    (of_lines c.args.schema.now c.args.site.0 gone held told next c.in-At.cut c.in-At.base at c.in-Some.fault fault)

pub returns-clause-joins : goal.returns-clause-joins
returns-clause-joins c =
    let gone = c.args.part.now.gone in
    let held = c.as_slice-held.result.now in
    let told = c.args.told.now in
    let next = c.args.next.now in
    let at = rw c.in-At.is at c.in_ok-cut.ensures.found in
    let lawful = rw c.in_default.is at c.in_ok-fault.ensures.lawful in
    if_none c.why_untold.result (λ tells. subst (λ (l : List ℕ). Joins c.args.schema.now c.args.site.0 gone l told next)
    c.as_slice-held.ensures.bytes (joins c.args.schema.now c.args.site.0 gone held told next c.in-At.cut c.in-At.base at lawful tells))
    c.why_untold.ensures.tells
