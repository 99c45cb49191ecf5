use Rattle.std.proofs.Common.{sym, ◌∙◌}
use Rattle.site_service.proofs.Spares.{lists_nothing, lists_next, lists_all, lists_if}
use Rattle.site_service.proofs.letting_go.list_all_open.Goals as goal

pub open-init : goal.open-init
open-init c = record {
  index = c.requires.index;
  lists = lists_nothing c.args.site.now c.args.log.now c.args.told.now c.args.last c.new-listed.result.items c.new-listed.ensures.items;
}

pub returns-in-None-clause-lists : goal.returns-in-None-clause-lists
returns-in-None-clause-lists c =
    lists_all c.args.site.now c.args.log.now c.args.told.now c.args.last c.open.n c.open.listed.items c.open.invariant.lists
    (sym c.open_txn.ensures.value ∙ c.in-None.is)

pub open-preserved : goal.open-preserved
open-preserved c = record {
  index = c.list_open.ensures.index;
  lists = lists_next c.args.site.now c.args.log.now c.args.told.now c.args.last c.open.n c.open.listed.items c.list_open.new.listed.items
      c.in-Some.txn c.open.invariant.lists (sym c.open_txn.ensures.value ∙ c.in-Some.is)
      (lists_if c.args.log.now c.args.told.now c.args.last c.open.listed.items c.list_open.new.listed.items c.in-Some.txn
      c.in_ok-is_listed-in-Some.is_listed c.if-not-is_listed.false c.in_ok-is_listed-in-Some.ensures.lists);
}
