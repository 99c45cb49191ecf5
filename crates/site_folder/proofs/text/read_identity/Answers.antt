use Rattle.std.proofs.Common.{rules}
use Rattle.site_folder.proofs.IdentityLemmas.{only_by}
use Rattle.site_folder.proofs.text.read_identity.Goals as goal

pub returns-in_err-told-clause-only : goal.returns-in_err-told-clause-only
returns-in_err-told-clause-only c = only_by c.args.text.now c.from_residual.result (search rules) (search rules) (search rules)

pub returns-in_err-check_world-clause-only : goal.returns-in_err-check_world-clause-only
returns-in_err-check_world-clause-only c =
    only_by c.args.text.now c.from_residual-in_err-check_world.result (search rules) (search rules) (search rules)

pub returns-clause-only : goal.returns-clause-only
returns-clause-only c = only_by c.args.text.now c.of_parts.result c.of_parts.ensures.own (search rules) (search rules)
