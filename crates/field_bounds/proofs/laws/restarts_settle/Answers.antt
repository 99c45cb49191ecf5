use Rattle.std.proofs.Common.{List, ◌∙◌, ap}
use Rattle.field_bounds.specs.declared.effect.Effect.{Effect}
use Rattle.field_bounds.specs.Effects.{says_doubt_kept, effects, open_txns, held_rights, share}
use Rattle.field_bounds.proofs.Doubt.{nothing_in_doubt, restarted_is}
use Rattle.field_bounds.proofs.Runs.{run_is_lawful}
use Rattle.field_bounds.proofs.Stops.{stop_closes_all, share_stop, held_stop}
use Rattle.field_bounds.proofs.laws.restarts_settle.Goals as goal

pub returns-clause-sure : goal.returns-clause-sure
returns-clause-sure c = λ base o kept up. nothing_in_doubt base kept o up

pub returns-clause-closed : goal.returns-clause-closed
returns-clause-closed c = λ base o kept e last is.
    ap (λ (es : List Effect). open_txns es) (restarted_is base kept e o last is) ∙ stop_closes_all (effects base (says_doubt_kept last) o)

pub returns-clause-held : goal.returns-clause-held
returns-clause-held c = λ schema s base o kept e last run is f k.
    ap (λ (es : List Effect). held_rights f k es) (restarted_is base kept e o last is)
    ∙ held_stop schema base (effects base (says_doubt_kept last) o) (run_is_lawful schema s base o run (says_doubt_kept last)) f k

pub returns-clause-share : goal.returns-clause-share
returns-clause-share c = λ schema s base o kept e last run is f k.
    ap (λ (es : List Effect). share base f k es) (restarted_is base kept e o last is)
    ∙ share_stop schema base (effects base (says_doubt_kept last) o) (run_is_lawful schema s base o run (says_doubt_kept last)) f k
