use Rattle.std.proofs.Common.{◌≡◌, List, ℕ, sym, subst, ◌∙◌}
use Rattle.kept_records.specs.Keeping.{IsKept}
use Rattle.site_step.specs.Shortening.{held_of}
use Rattle.site_service.specs.Kept.{TellsCommit, AnswersCommit, IsRightOf}
use Rattle.site_service.specs.Answers.{held_in}
use Rattle.site_service.specs.Index.{IsIndexOf}
use Rattle.site_service.specs.Service.{ServiceValue}
use Rattle.site_service.proofs.Links.{sound_looked}
use Rattle.site_service.proofs.Held.{held_medium, held_kept}
use Rattle.site_service.proofs.Forgets.{right_of}
use Rattle.site_service.proofs.service.Service.has_kept.Goals as goal

pub holds-requires : goal.holds-requires
holds-requires g c =
    let s = c.self.inside in
    let is : c.bytes.result.now ≡ held_of s.site = c.bytes.ensures.bytes ∙ held_medium c.self.inside.site c.medium.ensures.bytes in
    record {
      index = subst (IsIndexOf s.kept) (sym is) c.self.invariant.index;
      log = subst IsKept (sym is) (held_kept s.site c.self.invariant.linked.stands);
    }

pub returns-clause-kept : goal.returns-clause-kept
returns-clause-kept g c =
    let s = c.self.inside in
    let is : c.bytes.result.now ≡ held_of s.site = c.bytes.ensures.bytes ∙ held_medium c.self.inside.site c.medium.ensures.bytes in
    let found = c.in_ok-is_held.is_held in
    subst (λ (v : ServiceValue). AnswersCommit (held_in v.served) v.served.let_go.told c.args.txn c.commit_answer.result) c.self.view_is
    (found, subst (λ (b : List ℕ). TellsCommit b c.args.txn found) is c.in_ok-is_held.ensures.kept, c.commit_answer.ensures)

pub returns-clause-right : goal.returns-clause-right
returns-clause-right g c =
    let s = c.self.inside in
    let is : c.bytes.result.now ≡ held_of s.site = c.bytes.ensures.bytes ∙ held_medium c.self.inside.site c.medium.ensures.bytes in
    let found = c.in_ok-is_held.is_held in
    subst (λ (v : ServiceValue). IsRightOf v.served.site.bytes c.args.txn c.commit_answer.result) c.self.view_is
    (right_of s.site c.self.invariant.linked.stands s.told c.self.invariant.linked.let_go c.args.txn found c.commit_answer.result
    (subst (λ (b : List ℕ). TellsCommit b c.args.txn found) is c.in_ok-is_held.ensures.kept) c.commit_answer.ensures)

pub invariant_of-self : goal.invariant_of-self
invariant_of-self g c =
    let s = c.self.inside in
    let is : c.bytes.result.now ≡ held_of s.site = c.bytes.ensures.bytes ∙ held_medium c.self.inside.site c.medium.ensures.bytes in
    sound_looked s.site s.keys.last s.told s.lines s.waiting.items (g.F.LogFile.bytes s.log) (g.F.LogFile.safe s.log) (g.F.LogFile.least s.log) s.settled
    s.lost s.kept s.keys.lines c.self.invariant c.holds.new.self (subst (IsIndexOf c.holds.new.self) is c.holds.ensures.index)

pub invariant_of-self-2 : goal.invariant_of-self-2
invariant_of-self-2 g c =
    let s = c.self.inside in
    let is : c.bytes.result.now ≡ held_of s.site = c.bytes.ensures.bytes ∙ held_medium c.self.inside.site c.medium.ensures.bytes in
    sound_looked s.site s.keys.last s.told s.lines s.waiting.items (g.F.LogFile.bytes s.log) (g.F.LogFile.safe s.log) (g.F.LogFile.least s.log) s.settled
    s.lost s.kept s.keys.lines c.self.invariant c.holds.new.self (subst (IsIndexOf c.holds.new.self) is c.holds.ensures.index)
