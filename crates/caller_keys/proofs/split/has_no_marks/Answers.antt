use Rattle.caller_keys.proofs.Fronts.{plain}
use Rattle.caller_keys.proofs.split.has_no_marks.Goals as goal

pub returns-clause-keyed : goal.returns-clause-keyed
returns-clause-keyed c = λ is. plain c.args.text.now (c.is_clear.ensures.clear.0 is)
