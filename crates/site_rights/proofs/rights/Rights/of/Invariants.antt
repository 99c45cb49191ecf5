use Rattle.std.proofs.Common.{◌≡◌, ℕ, ◌<◌, length}
use Rattle.std.specs.Prelude.{All}
use Rattle.site_rights.specs.Rights.{IsWithinWidth, IsTold, pair_at, row_at}
use Rattle.site_rights.proofs.rights.Rights.of.Given as goal

-- the rows so far are those of the fields so far
abbrev pub invariant-loop-number : goal.invariant-loop-number
invariant-loop-number l = record {
  count : length l.rows.items ≡ l.number;
  within : All IsWithinWidth l.rows.items;
  each : (f : ℕ) → f < length l.rows.items → IsTold l.schema f (pair_at l.free f) (pair_at l.cuts f) (row_at l.rows.items f);
}
