-- Which records a site's entries leave on its medium (this project). Records stand in order, the oldest first; entries
-- have the newest first.
use Rattle.std.specs.Prelude.{◌≡◌, ℕ, ◌+◌, ◌≤◌, Bool, true, false, if◌then◌else◌, List, [], ◌∷◌, ◌++◌, reverse}
use Rattle.field_bounds.specs.declared.kind.Kind.{Kind}
use Rattle.field_bounds.specs.declared.id.SiteNo.{SiteNo}
use Rattle.field_bounds.specs.declared.id.FieldNo.{FieldNo}
use Rattle.field_bounds.specs.declared.entry.Command.{Command}
use Rattle.field_bounds.specs.declared.entry.Command.TheVariants as commands
use Rattle.field_bounds.specs.declared.entry.Reply.{Reply}
use Rattle.field_bounds.specs.declared.entry.Entry.{Entry}
use Rattle.field_bounds.specs.Schema.{SchemaValue}
use Rattle.field_bounds.specs.Shape.{answered, restarted, in_doubt, stays_down, refused, shape}
use Rattle.field_bounds.specs.Effects.{Base, fresh, escrows_of, doubt_kept_before}
use Rattle.field_bounds.specs.Owed.{Place, place, told_so_far, cut_so_far, spare_of, writes, max_change}
use Rattle.kept_records.specs.declared.record.Record.{Record}
use Rattle.kept_records.specs.declared.record.Record.TheVariants.{Commit, Gift, Accept, Tighten, Restart}
use Rattle.kept_records.specs.Stands.{greatest, base_stood_for, gained_in, spent_in, given_in, cut_in, accepted_in}

-- The record that a command leaves where it is carried out, in a list of one, or of none where it leaves none: a transaction's
-- escrows in order of grant, if it has any; the new total of a gift, of a spare or of a tightening; the total of a statement
-- that tells more than was accepted before.
abbrev pub record_left : Place → Command → List Record
record_left at (commands.Commit txn) = if writes at (commands.Commit txn) then Commit txn (reverse (escrows_of txn at.effects)) ∷ [] else []
record_left at (commands.Give to field kind amount) = Gift to field kind (told_so_far at to field kind + amount) ∷ []
record_left at (commands.Spare to field kind want) = Gift to field kind (told_so_far at to field kind + spare_of at field kind want) ∷ []
record_left at (commands.Tighten field kind amount) = Tighten field kind (cut_so_far at field kind + amount) ∷ []
record_left at (commands.Accept told) = if writes at (commands.Accept told) then Accept told.from told.field told.kind told.total ∷ [] else []
record_left at commands.Begin = []
record_left at (commands.Escrow txn field change) = []
record_left at (commands.Abort txn) = []
record_left at (commands.Restate to field kind) = []
record_left at (commands.Read field) = []
record_left at (commands.Share field) = []
record_left at commands.Restart = []

-- What a tightening would bring what was given up to lies in the range of its record. Of another command nothing is asked.
abbrev pub IsCutWithin : Place → Command → Type 0
IsCutWithin at command =
    (field : FieldNo) (kind : Kind) (amount : ℕ) → command ≡ commands.Tighten field kind amount → cut_so_far at field kind + amount ≤ max_change

-- The records that an entry adds behind some records; stood says whether the device left a record that wasn't answered.
abbrev pub adds : Place → Command → Reply → Bool → List Record → List Record
adds at command r stood rs =
    elim (shape r) [
      | answered ↦ record_left at command
      | restarted epoch _ ↦ Restart epoch ∷ []
      | in_doubt ↦ if stood then record_left at command else []
      | stays_down ↦ if stood then Restart (greatest rs + 1) ∷ [] else []
      | refused _ ↦ []
    ]

-- What a reply tells of the records in front of it: kept says whether the next restart will say Kept, and an epoch is
-- the greatest before it and one more.
abbrev pub Tells : Bool → Bool → List Record → Reply → Type 0
Tells kept stood rs r =
    elim (shape r) [
      | answered ↦ Unit {0}
      | restarted epoch _ ↦ epoch ≡ greatest rs + 1
      | in_doubt ↦ stood ≡ kept
      | stays_down ↦ Unit {0}
      | refused _ ↦ Unit {0}
    ]

-- An entry of a site.
abbrev pub entry_at : SiteNo → Command → Reply → Entry
entry_at site command reply = record { site = site; command = command; reply = reply }

-- The entries, over the base's records, leave these records; kept says whether what is in doubt stands among them.
abbrev pub Keeps : SchemaValue → ℕ → Base → List Record → Bool → List Entry → List Record → Type 0
Keeps schema s base bs kept [] rs = rs ≡ bs
Keeps schema s base bs kept (e ∷ o) rs =
    (front : List Record) × (stood : Bool) × Keeps schema s base bs (doubt_kept_before kept e.reply) o front
    × Tells kept stood front e.reply × (rs ≡ front ++ adds (place schema s base o) e.command e.reply stood front)

-- The base is what these records stand for.
pub record IsBase (schema : SchemaValue) (s : ℕ) (base : Base) (bs : List Record) : Type 0 where
  pub epoch : base.epoch ≡ greatest bs
  pub rights : (f : ℕ) (k : Kind) → base.rights f k + spent_in schema bs f k ≡ gained_in schema s bs f k
  pub cut : (f : ℕ) (k : Kind) → base.cut f k ≡ cut_in bs f k
  pub given : (to f : ℕ) (k : Kind) → base.given to f k ≡ given_in bs to f k
  pub accepted : (from f : ℕ) (k : Kind) → base.accepted from f k ≡ accepted_in bs from f k

-- What a site stands on that was opened over these records: the fresh base where the medium was empty, and else what
-- they stand for, not up.
abbrev pub base_of_records : SchemaValue → ℕ → Bool → List Record → Base
base_of_records schema s true bs = fresh schema s
base_of_records schema s false bs = base_stood_for schema s false bs
