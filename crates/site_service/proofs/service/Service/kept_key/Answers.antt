use Rattle.std.proofs.Common.{◌≡◌, List, ℕ, sym, subst, ◌∙◌}
use Rattle.kept_records.specs.Keeping.{IsKept}
use Rattle.site_step.specs.Shortening.{held_of}
use Rattle.site_service.specs.LetGo.{IsRightOfKey}
use Rattle.site_service.specs.Kept.{TellsKey, AnswersKey}
use Rattle.site_service.specs.Answers.{held_in}
use Rattle.site_service.specs.Index.{IsIndexOf}
use Rattle.site_service.specs.Service.{ServiceValue}
use Rattle.site_service.proofs.Links.{sound_looked}
use Rattle.site_service.proofs.Held.{held_medium, held_kept}
use Rattle.site_service.proofs.Forgets.{right_key}
use Rattle.site_service.proofs.service.Service.kept_key.Goals as goal

pub kept_with-requires : goal.kept_with-requires
kept_with-requires g c =
    let s = c.self.inside in
    let is : c.bytes.result.now ≡ held_of s.site = c.bytes.ensures.bytes ∙ held_medium c.self.inside.site c.medium.ensures.bytes in
    record {
      index = subst (IsIndexOf s.kept) (sym is) c.self.invariant.index;
      log = subst IsKept (sym is) (held_kept s.site c.self.invariant.linked.stands);
    }

pub returns-clause-kept : goal.returns-clause-kept
returns-clause-kept g c =
    let s = c.self.inside in
    let is : c.bytes.result.now ≡ held_of s.site = c.bytes.ensures.bytes ∙ held_medium c.self.inside.site c.medium.ensures.bytes in
    let found = c.in_ok-found.found in
    subst (λ (v : ServiceValue). AnswersKey (held_in v.served) v.served.let_go.told v.served.last c.args.key.bytes.now c.args.since
    c.key_answer.result)
    c.self.view_is
    (found, subst (λ (b : List ℕ). TellsKey b s.keys.last c.args.key.bytes.now found) is c.in_ok-found.ensures.kept, c.key_answer.ensures)

pub returns-clause-right : goal.returns-clause-right
returns-clause-right g c =
    let s = c.self.inside in
    subst (λ (v : ServiceValue). IsRightOfKey v.served.let_go.gone c.args.since c.key_answer.result) c.self.view_is
    (right_key s.site.gone s.told c.self.invariant.linked.let_go c.args.since c.in_ok-found.found c.key_answer.result c.key_answer.ensures)

pub invariant_of-self : goal.invariant_of-self
invariant_of-self g c =
    let s = c.self.inside in
    let is : c.bytes.result.now ≡ held_of s.site = c.bytes.ensures.bytes ∙ held_medium c.self.inside.site c.medium.ensures.bytes in
    sound_looked s.site s.keys.last s.told s.lines s.waiting.items (g.F.LogFile.bytes s.log) (g.F.LogFile.safe s.log) (g.F.LogFile.least s.log) s.settled
    s.lost s.kept s.keys.lines c.self.invariant c.kept_with.new.kept (subst (IsIndexOf c.kept_with.new.kept) is c.kept_with.ensures.index)

pub invariant_of-self-2 : goal.invariant_of-self-2
invariant_of-self-2 g c =
    let s = c.self.inside in
    let is : c.bytes.result.now ≡ held_of s.site = c.bytes.ensures.bytes ∙ held_medium c.self.inside.site c.medium.ensures.bytes in
    sound_looked s.site s.keys.last s.told s.lines s.waiting.items (g.F.LogFile.bytes s.log) (g.F.LogFile.safe s.log) (g.F.LogFile.least s.log) s.settled
    s.lost s.kept s.keys.lines c.self.invariant c.kept_with.new.kept (subst (IsIndexOf c.kept_with.new.kept) is c.kept_with.ensures.index)
