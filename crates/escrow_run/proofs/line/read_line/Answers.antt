use Rattle.std.proofs.Common.{sym, subst}
use Rattle.std.proofs.lemmas.Bool.{both_ways}
use Rattle.std.proofs.lemmas.Option.{none-some, same_Some}
use Rattle.escrow_run.specs.declared.line.Line.{Line}
use Rattle.escrow_run.specs.Text.{IsTaken}
use Rattle.escrow_run.proofs.LuckLemmas.{if_none}
use Rattle.escrow_run.proofs.StepLemmas.{bad_from}
use Rattle.escrow_run.proofs.line.read_line.Goals as goal

pub returns-in_err-asked-clause-none : goal.returns-in_err-asked-clause-none
returns-in_err-asked-clause-none c =
    if_none c.from_residual.result _
    (bad_from c.args.world.now.schema c.schema-schema.result.now c.args.line.now c.schema-schema.ensures.value
    c.schema-schema.ensures.limits (λ is asked a. none-some asked (c.in_err-asked.ensures.only is asked a)))

pub returns-else-is_taken-clause-none : goal.returns-else-is_taken-clause-none
returns-else-is_taken-clause-none c =
    bad_from c.args.world.now.schema c.schema-schema.result.now c.args.line.now c.schema-schema.ensures.value
    c.schema-schema.ensures.limits (λ is asked a.
    let same = sym (same_Some c.in_ok-asked.asked asked (c.in_ok-asked.ensures.only is asked a)) in
    both_ways c.is_taken.result c.if-is_taken.false
    (c.is_taken.ensures.1 (subst (λ (x : Line). IsTaken c.schema-schema.result.now x) same a.fits)))
