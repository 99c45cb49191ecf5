use Rattle.std.proofs.Common.{ℕ, ◌+◌, max, ap, ◌∙◌}
use Rattle.kept_records.specs.Stands.{greatest}
use Rattle.held_logs.specs.Counts.{told_number}
use Rattle.held_logs.proofs.counting.stand_behind.Goals as goal

pub returns : goal.returns
returns c =
    let held = c.requires.held in
    record {
      stand = record {
        count = held.0;
        counted = held.1;
        epoch =
            c.max-epoch.ensures ∙ ap (λ (n : ℕ). max n c.from-told.result) held.2
            ∙ ap (λ (n : ℕ). max (greatest held.1.records) n) (c.from-told.ensures ∙ c.in_ok-base_epoch.ensures.value held.0 held.1);
        size = c.saturating_add-length.ensures ∙ ap (λ (n : ℕ). told_number (c.args.gone.now.bytes + n)) held.3;
      };
    }
