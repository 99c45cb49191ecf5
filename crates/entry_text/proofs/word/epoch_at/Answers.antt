use Rattle.std.proofs.Common.{◌^◌}
use Rattle.entry_text.specs.Taking.{limited}
use Rattle.entry_text.proofs.Taken.{below_at, gives_none, gives_more, none_more}
use Rattle.entry_text.proofs.word.epoch_at.Goals as goal

pub returns-in_err-number : goal.returns-in_err-number
returns-in_err-number c =
    gives_none _ _ _ c.from_residual.ensures
    (none_more (limited (2 ^ 32)) _ _ (below_at (2 ^ 32) c.args.line.now) c.in_err-number.ensures.word)

pub returns : goal.returns
returns c =
    gives_more _ _ c.args.line.now c.in_ok-number.number (limited (2 ^ 32)) _ _ (below_at (2 ^ 32) c.args.line.now) c.in_ok-number.ensures.word
    c.medium_number.ensures
