use Rattle.std.proofs.Common.{◌≡◌, ◌≤◌, ◌*◌, take}
use Rattle.std.specs.Prelude.{sum_by}
use Rattle.log_bases.specs.Numbers.{on_field}
use Rattle.log_bases.proofs.balance.sum_on.Given as goal

-- the totals so far, each of which is at most 10^18
abbrev pub invariant-loop-told : goal.invariant-loop-told
invariant-loop-told l = record {
  so_far : l.sum ≡ sum_by (on_field l.field.0 l.kind) (take l.told-index l.totals);
  few : l.sum ≤ l.told-index * 1_000_000_000_000_000_000;
}
