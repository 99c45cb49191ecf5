use Rattle.std.proofs.Common.{refl}
use Rattle.std.proofs.lemmas.Bool.{eq-eqb, ne_eqb}
use Rattle.reaching_steps.proofs.standing.push_on.Goals as goal

pub returns-else-at-field : goal.returns-else-at-field
returns-else-at-field c = record { pushed = rw (ne_eqb c.args.at.0 c.args.field.0 c.if-at-field.false) refl }

pub returns-in_ok-push : goal.returns-in_ok-push
returns-in_ok-push c = record { pushed = rw (eq-eqb c.args.at.0 c.args.field.0 c.if-at-field.true) c.in_ok-push.ensures.items }
