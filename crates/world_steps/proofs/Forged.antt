-- A statement that was issued never exceeds the receiver's room, nor what a site has a field's width.
use Rattle.std.proofs.Common.{◌≡◌, ℕ, ◌+◌, ◌-◌, ◌<◌, ◌≤◌, List, arith}
use Rattle.std.proofs.lemmas.Int.{ints}
use Rattle.std.specs.Prelude.{ℤ, ◌-ℤ◌, ◌≤ℤ◌, unsigned_abs}
use Rattle.field_bounds.specs.declared.kind.Kind.{Kind}
use Rattle.field_bounds.specs.declared.kind.Kind.TheVariants.{Lower, Raise}
use Rattle.field_bounds.specs.declared.entry.Statement.{Statement}
use Rattle.field_bounds.specs.declared.entry.Entry.{Entry}
use Rattle.field_bounds.specs.Schema.{SchemaValue}
use Rattle.field_bounds.specs.Limits.{IsSchema}
use Rattle.field_bounds.specs.Parts.{field_at, width_of, sum_below}
use Rattle.field_bounds.specs.Effects.{fresh, cut, own_rights}
use Rattle.field_bounds.specs.Owed.{place, gain_of, room}
use Rattle.field_bounds.specs.Statements.{IsIssued}
use Rattle.field_bounds.specs.Central.{own, at_site, is_open_in, open_sizes, shares, cuts, in_flight, given_between, accepted_between, IsSound}
use Rattle.field_bounds.proofs.Sums.{term_below}
use Rattle.field_bounds.proofs.Ledgers.{issued_is_covered}
use Rattle.field_bounds.proofs.Conserved.{is_ordered, conserved, traced, free_of, open_of}
use Rattle.world_steps.proofs.Issued.{issued_to, issued_from}

-- a field's width is what lies below its value and above it
width_is : (floor value ceiling : ℤ) → floor ≤ℤ value → value ≤ℤ ceiling
    → unsigned_abs (value -ℤ floor) + unsigned_abs (ceiling -ℤ value) ≡ unsigned_abs (ceiling -ℤ floor)
width_is floor value ceiling low high = omega (arith, ints, low, high)

module _ (schema : SchemaValue) (good : IsSchema schema) (t : List Entry) (sound : IsSound schema t) where
  own_within : (s : ℕ) → s < schema.sites → (f : ℕ) (k : Kind)
      → own_rights (fresh schema s) f k (at_site schema t s) ≤ shares schema t f k + open_sizes schema t f k
  own_within s below f k =
      omega (
        arith,
        term_below schema.sites (free_of schema good t sound f k) s below,
        traced schema good t sound (is_open_in schema t) f k,
        term_below schema.sites (open_of schema good t sound f k) s below,
      )

  cut_within : (s : ℕ) → s < schema.sites → (f : ℕ) (k : Kind) → cut (fresh schema s) f k (at_site schema t s) ≤ cuts schema t f k
  cut_within s below f k = term_below schema.sites (λ i. cut (fresh schema i) f k (at_site schema t i)) s below

  -- what a site has and has given up, with what is in flight to anyone, is within the width
  pub within_width : (s : ℕ) → s < schema.sites → (f : ℕ)
      → own_rights (fresh schema s) f Lower (at_site schema t s) + own_rights (fresh schema s) f Raise (at_site schema t s)
      + in_flight schema t f Lower + in_flight schema t f Raise
      + cut (fresh schema s) f Lower (at_site schema t s) + cut (fresh schema s) f Raise (at_site schema t s) ≤ width_of (field_at schema f)
  within_width s below f =
      let ordered = is_ordered schema good f in
      omega (
        arith,
        conserved schema good t sound f Lower,
        conserved schema good t sound f Raise,
        own_within s below f Lower,
        own_within s below f Raise,
        cut_within s below f Lower,
        cut_within s below f Raise,
        width_is (field_at schema f).floor (field_at schema f).value (field_at schema f).ceiling ordered.floor ordered.ceiling,
      )

  flight_to : (f : ℕ) (k : Kind) (from to : ℕ) → from < schema.sites → to < schema.sites
      → given_between schema t f k from to - accepted_between schema t f k from to ≤ in_flight schema t f k
  flight_to f k from to below small =
      omega (
        arith,
        term_below schema.sites (λ to'. given_between schema t f k from to' - accepted_between schema t f k from to') to small,
        term_below schema.sites (λ from'. sum_below schema.sites
            (λ to'. given_between schema t f k from' to' - accepted_between schema t f k from' to')) from below,
      )

  one_kind : (f : ℕ) (k : Kind) → in_flight schema t f k ≤ in_flight schema t f Lower + in_flight schema t f Raise
  one_kind f Lower = omega arith
  one_kind f Raise = omega arith

  -- so no statement of a sound trace is refused as forged
  pub never_forged : (told : Statement) → IsIssued told t
      → gain_of (place schema told.to.0 (fresh schema told.to.0) (own told.to.0 t)) told.from told.field told.kind told.total
      ≤ room (place schema told.to.0 (fresh schema told.to.0) (own told.to.0 t)) told.field
  never_forged told issued =
      let from = issued_from schema t sound told issued in
      let to = issued_to schema t sound told issued in
      let f = told.field.0 in
      let covered = issued_is_covered schema t sound told issued in
      let flight = flight_to f told.kind told.from.0 told.to.0 from to in
      let small : told.total - accepted_between schema t f told.kind told.from.0 told.to.0 ≤ in_flight schema t f Lower
      + in_flight schema t f Raise =
      omega (arith, covered, flight, one_kind f told.kind) in
      omega (arith, small, within_width told.to.0 to f)
