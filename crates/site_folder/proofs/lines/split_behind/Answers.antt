use Rattle.site_folder.proofs.LineLemmas.{not_behind, none_anyway}
use Rattle.site_folder.proofs.lines.split_behind.Goals as goal

pub returns-in_err-line-clause-none : goal.returns-in_err-line-clause-none
returns-in_err-line-clause-none c =
    none_anyway c.from_residual-in_err-line.result
    (not_behind c.args.bytes.now c.args.word.now c.in_ok-bytes.bytes.now c.in_ok-bytes.ensures.rest c.in_err-line.ensures.parts)
