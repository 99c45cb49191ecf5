use Rattle.site_folder.proofs.LineLemmas.{no_name, no_second, none_anyway}
use Rattle.site_folder.proofs.lines.read_second.Goals as goal

pub returns-in_err-name-clause-none : goal.returns-in_err-name-clause-none
returns-in_err-name-clause-none c =
    none_anyway c.from_residual-in_err-name.result
    (no_name c.args.bytes.now c.in_ok-number.number c.in_ok-number.bytes.now c.in_ok-number.ensures.some.0 c.in_ok-number.ensures.some.1
    c.in_err-name.ensures.none)

pub returns-in_err-world-clause-none : goal.returns-in_err-world-clause-none
returns-in_err-world-clause-none c =
    none_anyway c.from_residual-in_err-world.result
    (no_second c.args.bytes.now c.in_ok-number.number c.in_ok-number.bytes.now c.in_ok-name.name.now c.in_ok-name.bytes.now
    c.in_ok-number.ensures.some.0 c.in_ok-number.ensures.some.1 c.in_ok-name.ensures.some.0 c.in_ok-name.ensures.some.1
    c.in_err-world.ensures.none)
