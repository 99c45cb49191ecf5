use Rattle.std.proofs.Common.{◌||◌, not, subst, ap, sym, ◌∙◌, List, Bool}
use Rattle.central_machine.specs.declared.journal.OpenRow.{OpenRow}
use Rattle.central_machine.specs.Open.{IsOpened, txns_of}
use Rattle.central_machine.specs.Rising.{are_apart}
use Rattle.central_machine.proofs.Rows.{opened_is}
use Rattle.central_machine.proofs.Apart.{begun_apart}
use Rattle.central_machine.proofs.journal.OpenSet.begin.Goals as goal

pub invariant_of-self-2 : goal.invariant_of-self-2
invariant_of-self-2 c =
    let j = c.args.self.now in
    let rank = c.rank_of-rank in
    record {
      apart = ap (λ (b : Bool). not b || are_apart rank.result (txns_of c.push.new.self.items)) c.rises-self.ensures
          ∙ begun_apart j.rising j.top rank.result j.rows.items c.push.new.self.items _ j.apart c.in_ok-push.ensures.items rank.ensures;
    }

pub returns : goal.returns
returns c = subst (λ (rows : List OpenRow). IsOpened c.args.self.now.rows.items rows c.args.txn) (sym c.in_ok-push.ensures.items)
    (opened_is c.args.self.now.rows.items _ c.new-escrows.ensures.items)
