-- The record of a command that isn't refused lies in the ranges of its text, over what a site keeps.
use Rattle.std.proofs.Common.{◌≡◌, ℕ, ◌+◌, ◌<◌, ◌≤◌, Bool, List, subst, None}
use Rattle.std.specs.List.{AllByRecursion}
use Rattle.field_bounds.specs.declared.entry.Command.{Command}
use Rattle.field_bounds.specs.declared.entry.Command.TheVariants.{Tighten}
use Rattle.field_bounds.specs.declared.entry.Entry.{Entry}
use Rattle.field_bounds.specs.Schema.{SchemaValue}
use Rattle.field_bounds.specs.Limits.{IsSchema}
use Rattle.field_bounds.specs.Effects.{Base}
use Rattle.field_bounds.specs.Owed.{place, first, refusals, cut_so_far, max_epoch, IsRun}
use Rattle.kept_records.specs.declared.record.Record.{Record}
use Rattle.kept_records.specs.Text.{IsRecord}
use Rattle.kept_records.specs.Stands.{Lawful}
use Rattle.kept_records.proofs.Covering.{tighten_few}
use Rattle.kept_state.specs.Keeps.{IsBase, record_left, IsCutWithin, Keeps}
use Rattle.kept_state.proofs.Lasting.{run_stays_lawful}
use Rattle.kept_state.proofs.Ranges.{record_in_range}
use Rattle.kept_state.proofs.Staying.{run_lawful_more}

module _ (schema : SchemaValue) (s : ℕ) (base : Base) (bs : List Record) (is_base : IsBase schema s base bs) (lawful : Lawful schema s bs)
    (kept : Bool) (o : List Entry) (rs : List Record)
    (good : IsSchema schema) (below : s < schema.sites) (run : IsRun schema s base o) (keeps : Keeps schema s base bs kept o rs)
  where
    -- what is guarded of a field is no more than its width, and so is what was given up
    pub cut_within : (c : Command) → first (refusals (place schema s base o) c) ≡ None → IsCutWithin (place schema s base o) c
    cut_within c h field kind amount is =
        let none = subst (λ (x : Command). first (refusals (place schema s base o) x) ≡ None) is h in
        tighten_few schema good s below rs (run_stays_lawful schema s base bs is_base lawful kept o rs run keeps) field kind
        (cut_so_far (place schema s base o) field kind + amount)
        (run_lawful_more schema s base bs is_base kept o rs run keeps (Tighten field kind amount) none).0

    pub written_in_range : (c : Command) → base.epoch ≤ max_epoch → first (refusals (place schema s base o) c) ≡ None
        → AllByRecursion IsRecord (record_left (place schema s base o) c)
    written_in_range c small h = record_in_range schema s base o good run small c (cut_within c h) h
