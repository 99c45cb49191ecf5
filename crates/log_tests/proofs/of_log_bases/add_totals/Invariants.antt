use Rattle.std.specs.Prelude.{⊤}
use Rattle.log_tests.proofs.of_log_bases.add_totals.Given as goal

abbrev pub invariant-loop-number : goal.invariant-loop-number
invariant-loop-number l = ⊤
