use Rattle.central_machine.specs.FieldAmounts.{amount}
use Rattle.central_machine.proofs.site_totals.effect_by.Goals as goal

pub returns : goal.returns
returns c = c.effect_of.ensures.value (amount c.args.shares.now) c.spared_in_doubt.ensures
