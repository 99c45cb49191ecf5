-- What a site is right after a restart (this project).
use Rattle.std.specs.Prelude.{◌≡◌, ℕ, List, []}
use Rattle.field_bounds.specs.declared.kind.Kind.{Kind}
use Rattle.field_bounds.specs.declared.entry.Reply.{Reply}
use Rattle.field_bounds.specs.Effects.{share, held_rights, open_txns, total_given, total_accepted, cut}
use Rattle.field_bounds.specs.Owed.{Place, epoch_of}
use Rattle.field_bounds.specs.Shape.{answered, restarted, in_doubt, stays_down, refused, shape}
use Rattle.kept_records.specs.declared.record.Record.{Record}
use Rattle.kept_records.specs.Stands.{greatest, own_in, given_in, accepted_in, cut_in}

-- Where a site stands is what these records stand for: its free rights, what it has given to and accepted from each other
-- site and given up for good, in rights, and its epoch.
pub record IsStoodFor (at : Place) (rs : List Record) : Type 0 where
  pub free : (f : ℕ) (k : Kind) → share at.base f k at.effects ≡ own_in at.schema at.site rs f k
  pub given : (to f : ℕ) (k : Kind) → total_given at.base to f k at.effects ≡ given_in rs to f k
  pub accepted : (from f : ℕ) (k : Kind) → total_accepted at.base from f k at.effects ≡ accepted_in rs from f k
  pub given_up : (f : ℕ) (k : Kind) → cut at.base f k at.effects ≡ cut_in rs f k
  pub epoch : epoch_of at.base at.entries ≡ greatest rs

-- No transaction is open there, and no rights are held.
pub record NothingOpen (at : Place) : Type 0 where
  pub none_open : open_txns at.effects ≡ []
  pub none_held : (f : ℕ) (k : Kind) → held_rights f k at.effects ≡ 0

-- A restart that went well: the site is what these records stand for.
abbrev pub StandsAnew : Reply → Place → List Record → Type 0
StandsAnew r at rs =
    elim (shape r) [
      | answered ↦ Unit {0}
      | restarted _ _ ↦ IsStoodFor at rs
      | in_doubt ↦ Unit {0}
      | stays_down ↦ Unit {0}
      | refused _ ↦ Unit {0}
    ]

-- A restart that went well: nothing is open.
abbrev pub ClosesAll : Reply → Place → Type 0
ClosesAll r at =
    elim (shape r) [
      | answered ↦ Unit {0}
      | restarted _ _ ↦ NothingOpen at
      | in_doubt ↦ Unit {0}
      | stays_down ↦ Unit {0}
      | refused _ ↦ Unit {0}
    ]
