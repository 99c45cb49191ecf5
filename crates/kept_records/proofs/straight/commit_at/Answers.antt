use Rattle.std.proofs.Common.{◌<◌, ◌≤◌, length, arith}
use Rattle.field_bounds.specs.declared.id.TxnId.{TxnId}
use Rattle.field_bounds.specs.Owed.{max_epoch, max_number}
use Rattle.kept_records.proofs.AtFront.{commit_at_front}
use Rattle.kept_records.proofs.straight.commit_at.Goals as goal

pub returns : goal.returns
returns c =
    let es = c.escrows.new.held in
    let txn : TxnId = record { epoch = c.in_ok-epoch.epoch; number = c.in_ok-number.number } in
    let epoch : txn.epoch ≤ max_epoch = omega (arith, c.in_ok-epoch.ensures.most, c.from.ensures) in
    let least : 0 < txn.number = omega (arith, c.in_ok-number.ensures.least) in
    let most : txn.number ≤ max_number = omega (arith, c.in_ok-number.ensures.most, c.from-2.ensures) in
    let some : 0 < length es.items = omega (arith, c.len-count.ensures, es.ok.0) in
    let few : length es.items ≤ 16 = omega (arith, c.len-count.ensures, es.ok.0) in
    record {
      parts = commit_at_front c.args.bytes.now _ _ _ c.in_ok-rest.rest.now txn es.items c.in_ok-words.ensures c.in_ok-epoch.ensures.spelled
          c.in_ok-number.ensures.spelled c.in_ok-rest.ensures.spelled;
      fits = (epoch, least, most, some, few, c.in_ok-rest.ensures.ranges);
    }
