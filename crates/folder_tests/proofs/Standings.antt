-- A standing that is told is for the records of a log, whatever is gone of it.
use Rattle.std.proofs.Common.{◌≡◌, ℕ, List, Option, Some, None, subst}
use Rattle.std.specs.Prelude.{IfNone, IfSome}
use Rattle.field_bounds.specs.Schema.{SchemaValue}
use Rattle.log_replay.specs.declared.standing.Standing.{Standing}
use Rattle.log_replay.specs.declared.log_bytes.LogReplayed.{LogReplayed}
use Rattle.log_replay.specs.declared.log_bytes.LogReplayed.TheVariants as came
use Rattle.log_replay.specs.LogBytes.{ComesTo}
use Rattle.log_head.specs.declared.gone.Gone.{Gone}
use Rattle.folder_logs.specs.First.{TellsFirst}
use Rattle.held_logs.specs.Behind.{ComesFrom, IsForLog, TellsBehind}
use Rattle.held_logs.proofs.Taken.{for_log}

pub stands_told : (told : Option Gone) (schema : SchemaValue) (s : ℕ) (bytes : List ℕ) (replayed : LogReplayed) (standing : Standing) (n : ℕ)
    → replayed ≡ came.Standing standing n → IfNone told (TellsFirst schema s bytes replayed)
    → IfSome told (λ _. TellsBehind schema s bytes replayed) → IsForLog schema s standing
stands_told None schema s bytes replayed standing n is whole behind =
    let comes : ComesTo schema s bytes standing n = subst (λ (r : LogReplayed). TellsFirst schema s bytes r) is whole in
    (comes.records, comes.lawful, comes.stands)
stands_told (Some gone) schema s bytes replayed standing n is whole behind =
    let from : ComesFrom schema s bytes standing n = subst (λ (r : LogReplayed). TellsBehind schema s bytes r) is behind in
    for_log from
