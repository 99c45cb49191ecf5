use Rattle.std.proofs.Common.{◌≡◌, ℕ, ◌+◌, ◌-◌, length, Option, Some, ap, ◌∙◌}
use Rattle.field_bounds.specs.declared.id.TxnId.{TxnId}
use Rattle.log_head.specs.declared.gone.Gone.{Gone}
use Rattle.field_bounds.specs.Effects.{is_up_to}
use Rattle.site_service.specs.Answers.{site_of, held_in}
use Rattle.site_service.specs.LetGo.{may_be_gone}
use Rattle.site_service.specs.Service.{ServiceValue}
use Rattle.site_step.specs.Shortening.{later_txn}
use Rattle.site_service.specs.Shortening.{bytes_told, records_told, reach_told}
use Rattle.site_service.proofs.Held.{held_medium}
use Rattle.site_service.proofs.ToldMore.{tells_more}
use Rattle.site_service.proofs.service.Service.told_then.Goals as goal

pub returns-in-Some-new-clause-tells : goal.returns-in-Some-new-clause-tells
returns-in-Some-new-clause-tells g c =
    let old = c.args.self.now.served in
    let told : c.self.inside.told ≡ old.let_go.told = ap (λ (v : ServiceValue). v.served.let_go.told) c.self.view_is in
    let goes : ℕ = length c.bytes.result.now - length c.held.result.now in
    let held : c.bytes.result.now ≡ held_in old =
    c.bytes.ensures.bytes ∙ held_medium c.self.inside.site c.medium.ensures.bytes ∙ ap (λ (v : ServiceValue). held_in v.served) c.self.view_is in
    let lists = rw c.in-Some-2.is at c.in_ok-listed.ensures.lists in
    tells_more (site_of old) c.args.plan.now c.requires.plan old.let_go.told c.reached-last.result c.in-Some-2.listed.items lists.0
    (λ txn gone. c.reached-last.ensures.told txn (ap (λ (t : Option Gone). may_be_gone t txn) told ∙ gone))
    (λ txn up. c.reached-last.ensures.latest txn (ap (λ (t : TxnId). is_up_to t txn) c.latest.ensures.value ∙ up))
    (c.reached-last.ensures.value ∙ ap (λ (t : Option Gone). later_txn (reach_told t) (Some c.latest.result)) told
    ∙ ap (λ (t : TxnId). later_txn (reach_told old.let_go.told) (Some t)) (c.latest.ensures.value ∙ c.requires.latest))
    _ goes c.records.result c.in-Some-new.ensures.some (c.in-Some.ensures.bytes ∙ ap (λ (t : Option Gone). bytes_told t + goes) told)
    (c.in-Some.ensures.records ∙ ap (λ (t : Option Gone). records_told t + c.records.result) told)
    (ap (λ (n : ℕ). n - length c.held.result.now) (ap length held) ∙ ap (λ (n : ℕ). length (held_in old) - n) (ap length c.held.ensures.all))
    c.records.ensures.value
