use Rattle.std.proofs.Common.{subst, true}
use Rattle.std.specs.BTreeSet.{Updates}
use Rattle.statement_set.proofs.Sets.{put_told}
use Rattle.statement_set.specs.contracts.set.StatementKeyOrd.TheImpl as order
use Rattle.statement_set.specs.declared.set.StatementKey.{StatementKey}
use Rattle.statement_set.proofs.set.put_among.Goals as goal

pub returns-clause-ok : goal.returns-clause-ok
returns-clause-ok c =
    put_told c.args.rest.now c.insert.new.self c.args.statement
    (subst (λ (key : StatementKey). Updates (order.ghosts).cmp c.args.rest.now c.insert.new.self key true) c.key_of.ensures
    c.in_ok-insert.ensures.updates)
