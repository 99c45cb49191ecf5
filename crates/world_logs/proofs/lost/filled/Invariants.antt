use Rattle.std.proofs.Common.{◌≡◌, ◌++◌, length}
use Rattle.world_logs.specs.LostBody.{AreFilled}
use Rattle.world_logs.proofs.lost.filled.Given as goal

-- those of the sites so far
abbrev pub invariant-loop-standing : goal.invariant-loop-standing
invariant-loop-standing l = record {
  count : l.number ≡ length l.yielded;
  whole : l.yielded ++ l.standing-iterator.rest.items ≡ l.fn.standings.items;
  filled : AreFilled l.fn.schema l.yielded l.all.items;
}
