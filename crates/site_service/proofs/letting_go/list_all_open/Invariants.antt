-- The first so many open transactions were gone over.
use Rattle.site_service.specs.Index.{IsIndexOf}
use Rattle.site_service.specs.Shorter.{ListsOpen}
use Rattle.site_service.proofs.letting_go.list_all_open.Given as goal

abbrev pub invariant-open : goal.invariant-open
invariant-open l = record {
  index : IsIndexOf l.kept l.log;
  lists : ListsOpen l.site l.log l.told l.last l.n l.listed.items;
}
