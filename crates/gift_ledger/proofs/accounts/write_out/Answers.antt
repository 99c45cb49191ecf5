use Rattle.std.proofs.Common.{◌++◌, ◌∙◌, ap, arith, replicate, rules}
use Rattle.gift_ledger.specs.Ledger.{no_accounts}
use Rattle.gift_ledger.proofs.accounts.write_out.Goals as goal

pub returns-clause-out : goal.returns-clause-out
returns-clause-out c =
    c.loop.invariant.0
    ∙ ap (λ m. c.args.written.now.items ++ replicate m no_accounts)
    (omega (arith, c.loop-test.false, c.loop.invariant.1, c.loop.invariant.2))

pub len-counter-requires : goal.len-counter-requires
len-counter-requires c κs = search rules

pub loop-init : goal.loop-init
loop-init c = search rules
