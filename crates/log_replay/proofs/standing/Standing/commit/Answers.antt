use Rattle.std.proofs.Common.{◌≡◌, List, take, subst, arith}
use Rattle.std.proofs.lemmas.List.{take_all}
use Rattle.field_bounds.specs.declared.entry.Escrow.{Escrow}
use Rattle.kept_records.specs.declared.record.Record.TheVariants.{Commit}
use Rattle.log_replay.specs.Standing.{TakesIn}
use Rattle.log_replay.proofs.standing.Standing.commit.Goals as goal

pub returns-then-escrows-eq1 : goal.returns-then-escrows-eq1
returns-then-escrows-eq1 c =
    let es = c.args.escrows.now in
    let all : take 1 es ≡ es = take_all 1 es (omega (arith, c.if-escrows-eq1.true)) in
    record {
      takes_in = subst (λ (l : List Escrow). TakesIn c.args.schema.now c.args.self.now (Commit c.args.txn l) c.commit_all.result
          c.commit_all.new.self) all c.commit_all.ensures.takes_in;
    }
