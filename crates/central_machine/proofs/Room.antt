-- The room of a field tells what one central store may grant there.
use Rattle.std.proofs.Common.{◌≡◌, ℕ, ◌+◌, List, arith, leb}
use Rattle.std.proofs.lemmas.Bool.{leb-true, le-leb}
use Rattle.std.proofs.lemmas.Bool.Decides.{same_from_decides}
use Rattle.std.proofs.lemmas.Int.{ints}
use Rattle.std.specs.Bool.{Decides}
use Rattle.std.specs.Prelude.{ℤ, pos, ◌+ℤ◌, ◌-ℤ◌, ◌≤ℤ◌}
use Rattle.field_bounds.specs.declared.kind.Kind.TheVariants.{Lower, Raise}
use Rattle.field_bounds.specs.declared.entry.Entry.{Entry}
use Rattle.field_bounds.specs.Schema.{SchemaValue}
use Rattle.field_bounds.specs.Parts.{field_at}
use Rattle.field_bounds.specs.Central.{committed_value, inf, sup, open_sizes, cuts, floor_in, ceiling_in}
use Rattle.central_rules.specs.Verdict.{within_bound}
use Rattle.central_rules.proofs.Decided.{le_z_is}

low_is : (F V : ℤ) (room h c q : ℕ) → (F +ℤ pos room) ≡ V → Decides (leb (h + c + q) room) ((F +ℤ pos c) ≤ℤ ((V -ℤ pos h) -ℤ pos q))
low_is F V room h c q is = (λ x. let y = leb-true (h + c + q) room x in omega (arith, ints, is, y), λ le. le-leb (h + c + q) room (omega (arith, ints, is, le)))

high_is : (C V : ℤ) (room h c q : ℕ) → (V +ℤ pos room) ≡ C → Decides (leb (h + c + q) room) (((V +ℤ pos h) +ℤ pos q) ≤ℤ (C -ℤ pos c))
high_is C V room h c q is = (λ x. let y = leb-true (h + c + q) room x in omega (arith, ints, is, y), λ le. le-leb (h + c + q) room (omega (arith, ints, is, le)))

module _ (schema : SchemaValue) (t : List Entry) (f : ℕ) (h c q : ℕ) where
  pub low_room : (room : ℕ) → ((field_at schema f).floor +ℤ pos room) ≡ committed_value schema t f
      → h ≡ open_sizes schema t f Lower → c ≡ cuts schema t f Lower → leb (h + c + q) room ≡ within_bound schema t f q Lower
  low_room room is open_is cut_is = rw (open_is, cut_is) (same_from_decides _ _
      (low_is (field_at schema f).floor (committed_value schema t f) room (open_sizes schema t f Lower) (cuts schema t f Lower) q is)
      (le_z_is (floor_in schema t f) (inf schema t f -ℤ pos q)))

  pub high_room : (room : ℕ) → (committed_value schema t f +ℤ pos room) ≡ (field_at schema f).ceiling
      → h ≡ open_sizes schema t f Raise → c ≡ cuts schema t f Raise → leb (h + c + q) room ≡ within_bound schema t f q Raise
  high_room room is open_is cut_is = rw (open_is, cut_is) (same_from_decides _ _
      (high_is (field_at schema f).ceiling (committed_value schema t f) room (open_sizes schema t f Raise) (cuts schema t f Raise) q is)
      (le_z_is (sup schema t f +ℤ pos q) (ceiling_in schema t f)))
