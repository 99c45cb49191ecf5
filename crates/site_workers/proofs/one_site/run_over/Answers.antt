use Rattle.std.proofs.Common.{subst}
use Rattle.std.specs.Prelude.{IfOk, Ok}
use Rattle.crossbeam_channel.specs.Claims.{view}
use Rattle.site_workers.specs.declared.inbox.Letter.{Letter}
use Rattle.site_workers.specs.declared.inbox.View.{View}
use Rattle.site_workers.specs.Carried.{commands_of}
use Rattle.site_workers.specs.Scripts.{AreAccepts}
use Rattle.site_workers.proofs.Scripts.{if_worked}
use Rattle.site_workers.proofs.Couriers.{told_accepts, close_told}
use Rattle.site_workers.proofs.one_site.run_over.Goals as goal

pub returns-in-Ok-clause-worked : goal.returns-in-Ok-clause-worked
returns-in-Ok-clause-worked g c =
    let told =
    told_accepts (λ k. k.answer) (λ k. k.pass) (λ k. (view {X = Letter} {V = View} k.way).taken) c.in-Some.second.count (λ k. k.pass.count)
    c.args.schema.now.sites c.in-Some.desk.site (view c.args.seat.mail.way).taken c.run_both-worked.result.2 c.told_of_courier.result
    c.told_of_courier.ensures.none c.told_of_courier.ensures.ok c.told_of_courier.ensures.fault c.run_both-worked.ensures.carried in
    let accepts : AreAccepts (commands_of c.in_ok-own.theirs.items) =
    subst (λ r. IfOk r (λ t. AreAccepts (commands_of t.0.items))) c.in_ok-own.ensures.ok.1 told in
    if_worked c.args.schema.now c.in-Some.desk.schema c.args.seat.site c.in-Some.desk.site c.args.seat.script.items
    c.run_both-worked.result.0 c.in_ok-own.own c.in_ok-own.theirs c.in-Some.first.last _ _ _ (Ok c.in-Ok.history)
    c.in-Some.ensures.desk.0 c.in-Some.ensures.desk.1
    c.in_ok-own.ensures.ok.0
    c.in_ok-receipts.ensures.ok
    c.as_slice.ensures.value
    c.run_both-worked.ensures.calls
    c.run_both-worked.ensures.rising
    accepts
    c.requires.plain
    c.in-Ok.ensures.closed

pub returns-in-Err-clause-fault : goal.returns-in-Err-clause-fault
returns-in-Err-clause-fault g c =
    let told =
    told_accepts (λ k. k.answer) (λ k. k.pass) (λ k. (view {X = Letter} {V = View} k.way).taken) c.in-Some.second.count (λ k. k.pass.count)
    c.args.schema.now.sites c.in-Some.desk.site (view c.args.seat.mail.way).taken c.run_both-worked.result.2 c.told_of_courier.result
    c.told_of_courier.ensures.none c.told_of_courier.ensures.ok c.told_of_courier.ensures.fault c.run_both-worked.ensures.carried in
    let accepts : AreAccepts (commands_of c.in_ok-own.theirs.items) =
    subst (λ r. IfOk r (λ t. AreAccepts (commands_of t.0.items))) c.in_ok-own.ensures.ok.1 told in
    close_told c.args.schema.now c.in-Some.desk.schema c.args.seat.site c.in-Some.desk.site (g.G.Gate.turns c.args.gate.now)
    c.args.seat.script.items c.in-Some.ensures.desk.0 c.in-Some.ensures.desk.1 c.in-Err.fault c.run_both-worked.result.0 c.in_ok-own.own
    c.in_ok-own.theirs c.in_ok-receipts.receipts c.in_ok-own.ensures.ok.0 c.in_ok-receipts.ensures.ok c.run_both-worked.ensures.calls
    accepts c.in-Err.ensures.fault
