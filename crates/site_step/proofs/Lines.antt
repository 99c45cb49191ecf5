-- No call of a site drops a whole line.
use Rattle.std.proofs.Common.{◌≡◌, ◌⊎◌, ℕ, ◌+◌, List, [], ◌++◌, take, sym, ap, ◌∙◌, inl, inr, append_assoc}
use Rattle.std.specs.List.{flat_map}
use Rattle.std.proofs.lemmas.List.{append-nil}
use Rattle.field_bounds.specs.declared.entry.Command.{Command}
use Rattle.field_bounds.specs.declared.entry.Reply.{Reply}
use Rattle.field_bounds.specs.declared.entry.Reply.TheVariants.{Restarted, Unsure, StillDown, Refused}
use Rattle.field_bounds.specs.Owed.{Place}
use Rattle.kept_records.specs.declared.record.Record.{Record}
use Rattle.kept_records.specs.declared.record.Record.TheVariants as records
use Rattle.kept_records.specs.Text.{text}
use Rattle.kept_records.specs.Medium.{IsCutShort}
use Rattle.kept_records.specs.Logs.{IsLog}
use Rattle.kept_records.specs.Stands.{greatest}
use Rattle.site_step.specs.Site.{SiteValue, here, lines_behind, lines_of, Writes, Applies}

abbrev BeginsWith : List ℕ → List ℕ → Type 0
BeginsWith front bytes = (added : List ℕ) × (bytes ≡ front ++ added)

-- what stands behind a log stands behind its lines
behind_lines : (old new more : List ℕ) (rs : List Record) (rest : List ℕ) → IsLog old rs rest → new ≡ old ++ more
    → BeginsWith (flat_map text rs) new
behind_lines old new more rs rest log is =
    (rest ++ more, is ∙ ap (λ (b : List ℕ). b ++ more) log.parts ∙ append_assoc (flat_map text rs) rest more)

failed_leaves : (old new piece : List ℕ) (rs : List Record) (rest : List ℕ) → IsLog old rs rest
    → (new ≡ old) ⊎ IsCutShort (flat_map text rs) piece new → BeginsWith (flat_map text rs) new
failed_leaves old new piece rs rest log (inl same) = (rest, same ∙ log.parts)
failed_leaves old new piece rs rest log (inr cut) = (take cut.0 piece, cut.1)

writes_leave : (at : Place) (command : Command) (reply : Reply) (old new : List ℕ) (rs : List Record) (rest : List ℕ) → IsLog old rs rest
    → Writes at command reply old new → BeginsWith (flat_map text rs) new
writes_leave at command (Refused refusal) old new rs rest log writes = (rest, writes ∙ log.parts)
writes_leave at command Unsure old new rs rest log writes =
    let cut = writes rs rest log in
    behind_lines old new (take cut.0 (lines_of at command rs)) rs rest log cut.1
writes_leave at command StillDown old new rs rest log writes =
    failed_leaves old new (lines_behind at rs (records.Restart (greatest rs + 1))) rs rest log (writes rs rest log)
writes_leave at command (Restarted epoch found) old new rs rest log writes =
    (lines_behind at rs (records.Restart (greatest rs + 1)), writes rs rest log)
writes_leave at command reply old new rs rest log writes =
    behind_lines old new (lines_of at command rs) rs rest log (writes rs rest log)

pub lines_stay : (before later : SiteValue) (rs : List Record) (rest : List ℕ) (command : Command) (reply : Reply)
    → IsLog before.bytes rs rest → Applies before command reply later → BeginsWith (flat_map text rs) later.bytes
lines_stay before later rs rest command reply log applies =
    writes_leave (here before) command reply before.bytes later.bytes rs rest log applies.writes_

pub all_stay : (before later : SiteValue) (rs : List Record) (command : Command) (reply : Reply) → IsLog before.bytes rs []
    → Applies before command reply later → BeginsWith before.bytes later.bytes
all_stay before later rs command reply log applies =
    let added = lines_stay before later rs [] command reply log applies in
    (added.0, added.1 ∙ ap (λ (b : List ℕ). b ++ added.0) (sym (log.parts ∙ append-nil (flat_map text rs))))
