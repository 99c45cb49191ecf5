use Rattle.std.proofs.Common.{ℕ, List, [], ◌∷◌, rules}
use Rattle.field_bounds.specs.declared.kind.Kind.{Kind}
use Rattle.field_bounds.specs.declared.kind.Kind.TheVariants.{Lower, Raise}
use Rattle.field_bounds.specs.Schema.{SchemaValue}
use Rattle.reaching_steps.specs.Reach.{Task, restates, delivers, passes_on}
use Rattle.reaching_steps.proofs.Growing.{grew_over, grew_tasks}
use Rattle.reaching_steps.proofs.Fronts.{took_over, took_tasks, took_later}
use Rattle.reaching_steps.proofs.steps.pass_from.Goals as goal

-- what one site gave to another of one kind
abbrev of : ℕ → ℕ → ℕ → ℕ → Kind → SchemaValue → List Task
of m f i j k schema = restates schema m f i j k ∷ delivers schema m f i j k ∷ []

pub loop-to-preserved : goal.loop-to-preserved
loop-to-preserved c =
    let one : Kind → SchemaValue → List Task = of c.args.named.0 c.args.field.0 c.args.from.0 c.loop-to.to in
    grew_over (λ schema to. passes_on schema c.args.named.0 c.args.field.0 c.args.from.0 to) c.loop-to.to c.loop-to.invariant
    (grew_tasks (one Lower) (one Raise) c.in_ok-pass_on.ensures.grew c.in_ok-pass_on-2.ensures.grew)

pub returns-in_err-pass_on : goal.returns-in_err-pass_on
returns-in_err-pass_on c =
    let one : Kind → List Task = λ k. of c.args.named.0 c.args.field.0 c.args.from.0 c.loop-to.to k c.loop-to.trial.schema in
    let t = took_over (λ schema to. passes_on schema c.args.named.0 c.args.field.0 c.args.from.0 to) c.loop-to.to c.args.sites
    c.loop-to-test.true c.loop-to.invariant (took_tasks (one Lower) (one Raise) c.in_err-pass_on.ensures.grew) in
    search (rules, t)

pub returns-in_err-pass_on-2 : goal.returns-in_err-pass_on-2
returns-in_err-pass_on-2 c =
    let one : Kind → SchemaValue → List Task = of c.args.named.0 c.args.field.0 c.args.from.0 c.loop-to.to in
    let t = took_over (λ schema to. passes_on schema c.args.named.0 c.args.field.0 c.args.from.0 to) c.loop-to.to c.args.sites
    c.loop-to-test.true c.loop-to.invariant
    (took_later (one Lower) (one Raise) c.in_ok-pass_on.ensures.grew c.in_err-pass_on-2.ensures.grew) in
    search (rules, t)
