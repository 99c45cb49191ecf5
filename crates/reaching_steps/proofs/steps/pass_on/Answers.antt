use Rattle.std.proofs.Common.{[], ◌∷◌, ◌∙◌, sym, rules}
use Rattle.world_steps.specs.World.{statements_issued}
use Rattle.world_steps.specs.View.{trace_of}
use Rattle.reaching_steps.specs.Reach.{steps_of_tasks, restates, delivers, number_of, telling}
use Rattle.reaching_steps.proofs.Growing.{grew_unpassed}
use Rattle.reaching_steps.proofs.Fronts.{took_none, took_first, carried_both}
use Rattle.reaching_steps.proofs.steps.pass_on.Goals as goal

pub returns-in-None : goal.returns-in-None
returns-in-None c =
    let w = c.args.trial.now in
    let f = c.args.field.0 in
    let i = c.args.from.0 in
    let j = c.args.to.0 in
    record {
      grew = grew_unpassed c.args.named.0 f i j
          (number_of (telling w.schema (trace_of w) f c.args.kind i j) (statements_issued (trace_of w))) c.args.kind
          (sym c.in-None.is ∙ c.in_ok-wanted.ensures.value);
    }

pub returns-in_err-wanted : goal.returns-in_err-wanted
returns-in_err-wanted c =
    let w = c.args.trial.now in
    let t = took_none w (steps_of_tasks w.schema w.steps (restates w.schema c.args.named.0 c.args.field.0 c.args.from.0 c.args.to.0 c.args.kind
    ∷ delivers w.schema c.args.named.0 c.args.field.0 c.args.from.0 c.args.to.0 c.args.kind ∷ [])) in
    search (rules, t)

pub returns-in_err-tell_again-in-Some : goal.returns-in_err-tell_again-in-Some
returns-in_err-tell_again-in-Some c = search (rules, took_first, c.in_err-tell_again-in-Some.ensures.grew)

pub returns-in_ok-tell_again-in-Some : goal.returns-in_ok-tell_again-in-Some
returns-in_ok-tell_again-in-Some c =
    let m = c.args.named.0 in
    let f = c.args.field.0 in
    let i = c.args.from.0 in
    let j = c.args.to.0 in
    record {
      grew = carried_both c.deliver.result c.deliver.new.trial c.deliver.new.taken.items (λ schema. restates schema m f i j c.args.kind) (λ schema. delivers schema m f i j c.args.kind)
          c.in_ok-tell_again-in-Some.ensures.grew c.deliver.ensures.grew;
    }
