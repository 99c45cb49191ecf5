use Rattle.std.proofs.Common.{◌≡◌, ◌≢◌, ◌+◌, sym, ap, subst, ◌∙◌}
use Rattle.std.specs.Prelude.{None}
use Rattle.central_rules.specs.declared.verdict.Verdict.TheVariants as verdicts
use Rattle.central_machine.specs.declared.front_judge.FrontJudge.{FrontJudge}
use Rattle.central_machine.specs.Front.{HasJudged}
use Rattle.escrow_audit.specs.declared.taking.JudgedEntries.{JudgedEntries}
use Rattle.escrow_audit.specs.Judged.{AreJudged}
use Rattle.escrow_audit.proofs.Judged.{still_judged}
use Rattle.escrow_audit.proofs.taking.JudgedEntriesTakesEntries.take_in.Goals as goal

pub returns-in_default-clause-taken : goal.returns-in_default-clause-taken
returns-in_default-clause-taken c = λ entries are.
    still_judged c.args.schema.now entries c.args.entry.now c.begin.new.self c.begin.ensures.begun c.in_default.not-Legal
    (c.begin.ensures.judged entries are)

pub returns-in-Ok-None-clause-taken : goal.returns-in-Ok-None-clause-taken
returns-in-Ok-None-clause-taken c = λ entries are.
    let judged : HasJudged c.args.schema.now entries c.in-Legal.judge =
    subst (λ (j : JudgedEntries). AreJudged c.args.schema.now entries j) c.in-Legal.is (c.begin.ensures.judged entries are) in
    c.in-Ok-None.ensures.taken entries judged c.in-Ok-None.field-0-is

pub returns-in-Ok-Some-clause-taken : goal.returns-in-Ok-Some-clause-taken
returns-in-Ok-Some-clause-taken c = λ entries are.
    let schema = c.args.schema.now in
    let judged : HasJudged schema entries c.in-Legal.judge =
    subst (λ (j : JudgedEntries). AreJudged schema entries j) c.in-Legal.is (c.begin.ensures.judged entries are) in
    let found : c.in-Ok-Some.field-0 ≢ None = λ none. cc in
    let same : c.next.new.self ≡ c.in-Legal.judge = c.in-Ok-Some.ensures.kept found in
    let still : HasJudged schema entries c.next.new.self = subst (λ (j : FrontJudge). HasJudged schema entries j) (sym same) judged in
    c.in-Ok-Some.ensures.illegal entries c.in-Ok-Some.rule judged c.in-Ok-Some.field-0-is
    ∙ ap (λ n. verdicts.Illegal (n + 1) c.in-Ok-Some.rule) (sym (c.count-at.ensures.value schema entries still))
