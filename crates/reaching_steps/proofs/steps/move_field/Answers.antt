use Rattle.std.proofs.Common.{rules}
use Rattle.std.proofs.Math.Facts.{to_z-of_z}
use mir.Syntax.{w64}
use mir.Val.{SFits}
use Rattle.world_steps.specs.View.{trace_of}
use Rattle.reaching_steps.specs.Reach.{moves}
use Rattle.reaching_steps.proofs.Fronts.{took_none, took_as, took_first, took_behind, carried_as, carried_on}
use Rattle.reaching_steps.proofs.Growing.{grew_nothing, found_three, found_none}
use Rattle.reaching_steps.proofs.Moving.{none_there}
use Rattle.reaching_steps.proofs.steps.move_field.Goals as goal

pub returns-in_err-found : goal.returns-in_err-found
returns-in_err-found c =
    let w = c.args.trial.now in
    let t = took_none w (moves w.schema c.args.named.0 c.args.field.0 c.args.target c.args.site.0 (trace_of w)) in
    search (rules, t)

pub returns-in_err-ask-in-Some : goal.returns-in_err-ask-in-Some
returns-in_err-ask-in-Some c =
    let told = rw (to_z-of_z c.ranges.target) at c.in_ok-found.ensures.value in
    let t = took_as (found_three c.args.trial.now c.args.named.0 c.args.field.0 c.args.target c.args.site.0 c.if-site-named.false
    c.next_at-txn.ensures.value c.in-Some.is told) (took_first _ c.in_err-ask-in-Some.ensures.grew) in
    search (rules, t)

pub returns-in_err-ask-in-Some-2 : goal.returns-in_err-ask-in-Some-2
returns-in_err-ask-in-Some-2 c =
    let told = rw (to_z-of_z c.ranges.target) at c.in_ok-found.ensures.value in
    let fits : SFits w64 c.in-Some.change = search rules in
    let second = rw (to_z-of_z fits) at c.in_err-ask-in-Some-2.ensures.grew in
    let t = took_as (found_three c.args.trial.now c.args.named.0 c.args.field.0 c.args.target c.args.site.0 c.if-site-named.false
    c.next_at-txn.ensures.value c.in-Some.is told) (took_behind c.in_ok-ask-in-Some.ensures.grew (took_first _ second)) in
    search (rules, t)

pub returns-in_ok-ask-in-Some-2 : goal.returns-in_ok-ask-in-Some-2
returns-in_ok-ask-in-Some-2 c =
    let told = rw (to_z-of_z c.ranges.target) at c.in_ok-found.ensures.value in
    let fits : SFits w64 c.in-Some.change = search rules in
    let second = rw (to_z-of_z fits) at c.in_ok-ask-in-Some-2.ensures.grew in
    let r = c.ask-in-Some-2.result in
    let y = c.ask-in-Some-2.new.trial in
    record {
      grew = carried_as r c.args.trial.now y _ _ (found_three c.args.trial.now c.args.named.0 c.args.field.0 c.args.target c.args.site.0
          c.if-site-named.false c.next_at-txn.ensures.value c.in-Some.is told)
          (carried_on r y _ _ c.in_ok-ask-in-Some.ensures.grew (carried_on r y _ _ second c.ask-in-Some-2.ensures.grew));
    }

pub returns-then-site-named : goal.returns-then-site-named
returns-then-site-named c =
    let w = c.args.trial.now in record {
      grew = grew_nothing (none_there w.schema c.args.named.0 c.args.field.0 c.args.target c.args.site.0 (trace_of w) c.if-site-named.true);
    }

pub returns-in-None : goal.returns-in-None
returns-in-None c =
    let told = rw (to_z-of_z c.ranges.target) at c.in_ok-found.ensures.value in record {
      grew = grew_nothing (found_none c.args.trial.now c.args.named.0 c.args.field.0 c.args.target c.args.site.0 c.if-site-named.false
          c.in-None.is told);
    }
