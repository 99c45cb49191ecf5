use Rattle.std.proofs.Common.{◌∙◌, rules}
use Rattle.field_bounds.specs.declared.id.TxnId.{TxnId}
use Rattle.field_bounds.specs.declared.entry.Command.TheVariants.{Abort}
use Rattle.world_steps.specs.declared.step.WorldStep.{WorldStep}
use Rattle.world_steps.specs.View.{trace_of}
use Rattle.reaching_steps.specs.Reach.{fine, aborts}
use Rattle.reaching_steps.proofs.Growing.{grew_map}
use Rattle.reaching_steps.proofs.Fronts.{took_none, took_map, took_as, aborts_are}
use Rattle.reaching_steps.proofs.steps.abort_open.Goals as goal

pub loop-id-preserved : goal.loop-id-preserved
loop-id-preserved c =
    grew_map (λ (id : TxnId). fine c.args.site.0 (Abort id)) c.deref-id-items.result.now c.loop-id.id-index _ c.loop-id-test.true
    c.loop-id.invariant c.in_ok-ask.ensures.grew

pub returns-in_err-ids : goal.returns-in_err-ids
returns-in_err-ids c =
    let w = c.args.trial.now in
    let t = took_none w (aborts w.schema c.args.named.0 c.args.site.0 (trace_of w)) in
    search (rules, t)

pub returns-in_err-ask : goal.returns-in_err-ask
returns-in_err-ask c =
    let f : TxnId → WorldStep = λ id. fine c.args.site.0 (Abort id) in
    let ids = c.deref-id-items.result.now in
    let t = took_as (aborts_are c.args.trial.now c.args.named.0 c.args.site.0 ids c.if-site-named.false
    (c.deref-id-items.ensures.value ∙ c.in_ok-ids.ensures.found))
    (took_map f ids c.loop-id.id-index _ c.loop-id-test.true c.loop-id.invariant c.in_err-ask.ensures.grew) in
    search (rules, t)
