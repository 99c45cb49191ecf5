use Rattle.std.proofs.Common.{length, sym, subst}
use Rattle.gift_ledger.specs.Ledger.{IsWithinTotal}
use Rattle.gift_ledger.proofs.LedgerLaws.{within-fresh}
use Rattle.gift_ledger.proofs.ledger.Ledger.new.Goals as goal

pub invariant_of-result : goal.invariant_of-result
invariant_of-result c = subst IsWithinTotal (sym c.loop-number.invariant)
    (within-fresh c.loop-number.number (length c.args.schema.now.fields))
