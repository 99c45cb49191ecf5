-- What the logs of all sites of a world say together: one list of records for each site, in the order of the sites.
-- Records stand in order, the oldest first.
use Rattle.std.specs.Prelude.{◌≡◌, ◌≢◌, ℕ, ◌+◌, ◌-◌, ◌<◌, ◌≤◌, ℤ, pos, ◌+ℤ◌, ◌-ℤ◌, List, [], length, map, slice_index_or}
use Rattle.std.specs.Global.{Vec}
use Rattle.field_bounds.specs.declared.kind.Kind.{Kind}
use Rattle.field_bounds.specs.declared.kind.Kind.TheVariants.{Lower, Raise}
use Rattle.field_bounds.specs.Schema.{SchemaValue}
use Rattle.field_bounds.specs.Parts.{field_at, sum_below}
use Rattle.kept_records.specs.declared.record.Record.{Record}
use Rattle.kept_records.specs.Stands.{given_in, accepted_in, cut_in, committed_in, own_in, Lawful}

-- The records of vectors.
abbrev pub records_of : List (Vec Record) → List (List Record)
records_of vs = map (λ (v : Vec Record). v.items) vs

-- The records of a site, and none of a site that isn't there.
abbrev pub log_of : List (List Record) → ℕ → List Record
log_of logs s = slice_index_or logs s []

-- There is a log for each site, and each is lawful for its site (this project).
pub record AreLawful (schema : SchemaValue) (logs : List (List Record)) : Type 0 where
  pub count : length logs ≡ schema.sites
  pub each : (s : ℕ) → s < schema.sites → Lawful schema s (log_of logs s)

-- ---- between two sites

-- The total that one site has given to another, by the log of the one that gave (Balegas and others 2015).
abbrev pub given_between : List (List Record) → ℕ → ℕ → ℕ → Kind → ℕ
given_between logs from to f k = given_in (log_of logs from) to f k

-- The greatest total that one site has accepted from another, by the log of the one that accepted (Balegas and others 2015).
abbrev pub accepted_between : List (List Record) → ℕ → ℕ → ℕ → Kind → ℕ
accepted_between logs from to f k = accepted_in (log_of logs to) from f k

-- Two different sites and a field, all of the schema.
pub record IsPair (schema : SchemaValue) (from to f : ℕ) : Type 0 where
  pub from_in : from < schema.sites
  pub to_in : to < schema.sites
  pub apart : from ≢ to
  pub field_in : f < length schema.fields

-- No site has accepted more from another than that has given it, of either kind on any field (this project).
abbrev pub AcceptedWithin : SchemaValue → List (List Record) → Type 0
AcceptedWithin schema logs =
    (from to f : ℕ) (k : Kind) → IsPair schema from to f → accepted_between logs from to f k ≤ given_between logs from to f k

-- ---- sums over all sites

-- The own rights of all sites of a kind on a field, added up (Balegas and others 2015).
abbrev pub all_rights : SchemaValue → List (List Record) → ℕ → Kind → ℕ
all_rights schema logs f k = sum_below schema.sites (λ s. own_in schema s (log_of logs s) f k)

-- The rights in flight: what was given and isn't accepted yet, between any two sites, added up (this project).
abbrev pub in_flight : SchemaValue → List (List Record) → ℕ → Kind → ℕ
in_flight schema logs f k =
    sum_below schema.sites (λ from. sum_below schema.sites
    (λ to. given_between logs from to f k - accepted_between logs from to f k))

-- What all sites have given up for good, of a kind on a field, added up (this project).
abbrev pub all_cuts : SchemaValue → List (List Record) → ℕ → Kind → ℕ
all_cuts schema logs f k = sum_below schema.sites (λ s. cut_in (log_of logs s) f k)

-- What all sites have committed of a kind on a field, added up (O'Neil 1986).
abbrev pub all_commits : SchemaValue → List (List Record) → ℕ → Kind → ℕ
all_commits schema logs f k = sum_below schema.sites (λ s. committed_in f k (log_of logs s))

-- ---- the value of a field and its bounds

-- The committed value of a field: that of the schema, and all that was committed to raise it, less all that was committed
-- to lower it (O'Neil 1986).
abbrev pub value_in : SchemaValue → List (List Record) → ℕ → ℤ
value_in schema logs f =
    ((field_at schema f).value +ℤ pos (all_commits schema logs f Raise)) -ℤ pos (all_commits schema logs f Lower)

-- Its floor: that of the schema, raised by all rights to lower that were given up (this project).
abbrev pub floor_in : SchemaValue → List (List Record) → ℕ → ℤ
floor_in schema logs f = (field_at schema f).floor +ℤ pos (all_cuts schema logs f Lower)

-- Its ceiling: that of the schema, lowered by all rights to raise that were given up (this project).
abbrev pub ceiling_in : SchemaValue → List (List Record) → ℕ → ℤ
ceiling_in schema logs f = (field_at schema f).ceiling -ℤ pos (all_cuts schema logs f Raise)

-- Rights are conserved: on each field the value lies above the floor, and below the ceiling, by exactly the own rights of
-- all sites and those in flight (Balegas and others 2015 for the floor, this project for both and for what is in flight).
pub record IsConserved (schema : SchemaValue) (logs : List (List Record)) : Type 0 where
  pub lowering : (f : ℕ) → f < length schema.fields
      → value_in schema logs f ≡ (floor_in schema logs f +ℤ pos (all_rights schema logs f Lower + in_flight schema logs f Lower))
  pub raising : (f : ℕ) → f < length schema.fields
      → value_in schema logs f +ℤ pos (all_rights schema logs f Raise + in_flight schema logs f Raise) ≡ ceiling_in schema logs f
