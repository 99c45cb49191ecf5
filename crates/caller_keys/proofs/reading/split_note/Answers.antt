use Rattle.std.proofs.Common.{List, ℕ, ◌++◌, codes, ap, ◌∙◌}
use Rattle.caller_keys.proofs.Lines.{not_second}
use Rattle.caller_keys.proofs.OnNone.{none_anyway}
use Rattle.caller_keys.proofs.reading.split_note.Goals as goal

pub returns-in_err-number-clause-none : goal.returns-in_err-number-clause-none
returns-in_err-number-clause-none c =
    let first = c.in_ok-epoch.ensures.some in
    none_anyway c.from_residual-in_err-number.result
    (not_second c.args.line.now c.in_ok-epoch.epoch c.in_ok-epoch.rest.now first.0
    (c.in_ok-rest.ensures.cut ∙ ap (λ (l : List ℕ). codes "K " ++ l) first.1) c.in_err-number.ensures.none)
