use Rattle.std.proofs.Common.{◌≡◌, true, List, ℕ, IfOk, IfSome, sym, subst, ◌∙◌}
use Rattle.field_bounds.specs.Owed.{is_up}
use Rattle.kept_records.specs.Keeping.{IsKept}
use Rattle.site_step.specs.Site.{base_of}
use Rattle.site_step.specs.Shortening.{held_of}
use Rattle.site_service.specs.Answers.{site_of, held_in}
use Rattle.site_service.specs.Index.{IsIndexOf}
use Rattle.site_service.specs.Service.{ServiceValue}
use Rattle.site_service.specs.Shorter.{ListsAllOpen}
use Rattle.site_service.proofs.Links.{sound_looked}
use Rattle.site_service.proofs.Held.{held_medium, held_kept}
use Rattle.site_service.proofs.service.Service.open_then.Goals as goal

pub list_all_open-requires : goal.list_all_open-requires
list_all_open-requires g c =
    let s = c.self.inside in
    let is : c.bytes.result.now ≡ held_of s.site = c.bytes.ensures.bytes ∙ held_medium c.self.inside.site c.medium.ensures.bytes in
    record {
      up = subst (λ (v : ServiceValue). is_up (base_of (site_of v.served)) v.served.site.history ≡ true) (sym c.self.view_is) c.requires.up;
      index = subst (IsIndexOf s.kept) (sym is) c.self.invariant.index;
      log = subst IsKept (sym is) (held_kept s.site c.self.invariant.linked.stands);
    }

pub invariant_of-self : goal.invariant_of-self
invariant_of-self g c =
    let s = c.self.inside in
    let is : c.bytes.result.now ≡ held_of s.site = c.bytes.ensures.bytes ∙ held_medium c.self.inside.site c.medium.ensures.bytes in
    sound_looked s.site s.keys.last s.told s.lines s.waiting.items (g.F.LogFile.bytes s.log) (g.F.LogFile.safe s.log) (g.F.LogFile.least s.log) s.settled
    s.lost s.kept s.keys.lines c.self.invariant c.list_all_open.new.kept (subst (IsIndexOf c.list_all_open.new.kept) is c.list_all_open.ensures.index)

pub returns-clause-lists : goal.returns-clause-lists
returns-clause-lists g c =
    let s = c.self.inside in
    let is : c.bytes.result.now ≡ held_of s.site = c.bytes.ensures.bytes ∙ held_medium c.self.inside.site c.medium.ensures.bytes in
    subst (λ (v : ServiceValue). IfOk c.list_all_open.result (λ found. IfSome found (λ listed.
    ListsAllOpen (site_of v.served) (held_in v.served) v.served.let_go.told c.args.last listed.items))) c.self.view_is
    (subst (λ (b : List ℕ). IfOk c.list_all_open.result (λ found. IfSome found (λ listed.
    ListsAllOpen s.site b s.told c.args.last listed.items))) is c.list_all_open.ensures.lists)
