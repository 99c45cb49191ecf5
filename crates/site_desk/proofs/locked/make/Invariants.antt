use Rattle.std.proofs.Common.{◌≡◌, ◌+◌, vec_len}
use Rattle.site_desk.specs.Passes.{calls_of, AreNew}
use Rattle.site_desk.proofs.locked.make.Given as goal

abbrev pub invariant-loop-i : goal.invariant-loop-i
invariant-loop-i g l = record {
  parts : l.rest.parts + l._i ≡ l.parts;
  amount : l.rest.amount ≡ 0;
  len : vec_len l.passes ≡ l._i;
  calls : calls_of l.passes.items ≡ 0;
  new : AreNew l.passes.items;
}
