use Rattle.site_folder.proofs.LineLemmas.{not_number, none_anyway}
use Rattle.site_folder.proofs.lines.split_number.Goals as goal

pub returns-in_err-number-clause-none : goal.returns-in_err-number-clause-none
returns-in_err-number-clause-none c =
    none_anyway c.from_residual-in_err-number.result
    (not_number c.args.bytes.now c.in_ok-word.word.now c.in_ok-word.bytes.now c.in_ok-word.ensures.some.0 c.in_ok-word.ensures.some.1
    (λ n fits is. let found = c.in_err-number.ensures.only n fits is in cc))
