use Rattle.std.proofs.Common.{◌<◌, ◌^◌, ◌∷◌}
use Rattle.std.proofs.lemmas.List.Elements.{All-same}
use Rattle.log_head.proofs.Told.{horizon_fits}
use Rattle.log_head.proofs.reading.horizon_of.Goals as goal

pub returns-in_default-clause-none : goal.returns-in_default-clause-none
returns-in_default-clause-none c = λ h own e.
    (rw c.in_default.is at c.in_ok-numbers.ensures.none)
    (All-same (λ n. n < 2 ^ 32) c.args.numbers.now (h.epoch ∷ h.number ∷ h.open_then) e (horizon_fits h own))
