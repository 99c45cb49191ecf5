use Rattle.site_folder.proofs.LineLemmas.{no_first, none_anyway}
use Rattle.site_folder.proofs.lines.read_first.Goals as goal

pub returns-in_err-world-clause-none : goal.returns-in_err-world-clause-none
returns-in_err-world-clause-none c =
    none_anyway c.from_residual-in_err-world.result
    (no_first c.args.bytes.now c.in_ok-number.number c.in_ok-number.bytes.now c.in_ok-number.ensures.some.0 c.in_ok-number.ensures.some.1
    c.in_err-world.ensures.none)
