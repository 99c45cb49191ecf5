-- The place to give to stays.
use Rattle.gift_ledger.specs.Ledger.{IsSlot}
use Rattle.small_crates_tests.proofs.of_gift_ledger.overfull.Given as goal

abbrev pub invariant-loop : goal.invariant-loop
invariant-loop l = IsSlot l.ledger 1 0
