use Rattle.std.proofs.Common.{ap, sym, ◌∙◌, arith, List, ◌≡◌, true}
use Rattle.central_machine.specs.declared.journal.OpenRow.{OpenRow}
use Rattle.central_machine.specs.Open.{index_of, txns_of}
use Rattle.central_machine.specs.Rising.{are_apart}
use Rattle.central_machine.proofs.Apart.{apart_now, place_at_most_one}
use Rattle.central_machine.proofs.journal.OpenSet.place.Goals as goal

pub returns-then-same_txn : goal.returns-then-same_txn
returns-then-same_txn c =
    let j = c.args.self.now in
    let row = c.index-rows-at in
    let seen = c.deref-rows.ensures.value in
    let apart : are_apart j.top (txns_of c.deref-rows.result.now) ≡ true =
    ap (λ (xs : List OpenRow). are_apart j.top (txns_of xs)) seen
    ∙ apart_now j.rising j.top (txns_of j.rows.items) j.apart c.if-self.true in
    let mine = sym c.same_txn.ensures.value ∙ c.if-same_txn.true in
    record {
      value = place_at_most_one j.top c.args.txn c.deref-rows.result.now c.guess-at.result row.result apart (omega arith) mine
          ∙ ap (index_of c.args.txn) seen;
    }
