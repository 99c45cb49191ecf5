use Rattle.std.specs.Fmt.{decimal}
use Rattle.caller_keys.proofs.Lines.{no_cut, not_number}
use Rattle.caller_keys.proofs.OnNone.{none_anyway}
use Rattle.caller_keys.proofs.reading.split_number.Goals as goal

pub returns-in_err-word-clause-none : goal.returns-in_err-word-clause-none
returns-in_err-word-clause-none c =
    none_anyway c.from_residual.result
    (λ number rest fits. no_cut 32 c.args.bytes.now (decimal number) rest c.in_err-word.ensures.parts)

pub returns-in_err-number-clause-none : goal.returns-in_err-number-clause-none
returns-in_err-number-clause-none c =
    none_anyway c.from_residual-in_err-number.result
    (not_number c.args.bytes.now c.in_ok-word.word.now c.in_ok-word.rest.now c.in_ok-word.ensures.parts.0 c.in_ok-word.ensures.parts.1
    (λ n fits is. let found = c.in_err-number.ensures.only n fits is in cc))
