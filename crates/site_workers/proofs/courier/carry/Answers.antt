use Rattle.std.proofs.Common.{rules, ◌≡◌, ℕ, ◌<◌, ◌≤◌, List, length, slice_index_or, Bool, true, false, ap, sym, subst, ◌∙◌, arith}
use Rattle.site_workers.specs.declared.inbox.View.{View}
use Rattle.site_workers.proofs.Carrying.{begins_at, accepts_at, ends_at, skips_at, finishes, stops_at, counts_more}
use Rattle.site_workers.proofs.courier.carry.Goals as goal

pub loop-init : goal.loop-init
loop-init g c = (
  tt,
  tt,
  c.requires.seat,
  omega (arith, c.in_ok-ended.ensures.len, c.from.ensures, c.sites.ensures.value),
  begins_at _ c.from.result _ _ c.new-receipts.ensures.items (search rules),
  search rules,
)

pub loop-preserved-in_ok-push-in-Stated : goal.loop-preserved-in_ok-push-in-Stated
loop-preserved-in_ok-push-in-Stated g c = (
  tt,
  tt,
  c.in-Some-take.ensures.seat,
  c.loop.invariant.3,
  accepts_at _ _ _ _ _ _ _ _ _ (ap (λ (v : View). v.taken) c.in-Some-take.ensures.some) c.in-Stated.is
      c.in_ok-push-in-Stated.ensures.items c.in_ok-accept-in-Stated.ensures.ok c.loop.invariant.4,
  counts_more _ _ _ _ _ _ c.in_ok-push-in-Stated.ensures.items c.in_ok-accept-in-Stated.ensures.asked c.loop.invariant.5,
)

pub loop-preserved-then-place-len : goal.loop-preserved-then-place-len
loop-preserved-then-place-len g c =
    let within : c.from-place.result < length c.loop.ended.items = omega (arith, c.if-place-len.true, c.loop.ended.ok.0) in (
      tt,
      tt,
      c.in-Some-take.ensures.seat,
      c.loop.invariant.3,
      ends_at _ _ _ _ _ _ _ _ (ap (λ (v : View). v.taken) c.in-Some-take.ensures.some) c.in-End.is c.from-place.ensures within
          c.loop.invariant.4,
      c.loop.invariant.5,
    )

pub loop-preserved : goal.loop-preserved
loop-preserved g c =
    let past : length c.loop.ended.items ≤ c.from-place.result = omega (arith, c.if-place-len.false, c.loop.ended.ok.0) in (
      tt,
      tt,
      c.in-Some-take.ensures.seat,
      c.loop.invariant.3,
      skips_at _ _ _ _ _ _ _ _ (ap (λ (v : View). v.taken) c.in-Some-take.ensures.some) c.in-End.is c.from-place.ensures past
          c.loop.invariant.4,
      c.loop.invariant.5,
    )

pub returns-then-all_marked-clause-ok : goal.returns-then-all_marked-clause-ok
returns-then-all_marked-clause-ok g c =
    finishes _ _ _ _ _ (sym c.loop.ended.ok.0 ∙ c.loop.invariant.3) c.loop.invariant.4
    (subst (λ (l : List Bool). (n : ℕ) → n < length l
    → slice_index_or l n false ≡ true) c.as_slice.ensures.value (c.all_marked.ensures.all c.if-all_marked.true))

pub returns-in_default-clause-fault : goal.returns-in_default-clause-fault
returns-in_default-clause-fault g c = (
  c.site.ensures.value,
  _,
  stops_at _ _ _ _ _ _ (ap (λ (v : View). v.taken) c.in_default.ensures.none)
      (sym c.loop.ended.ok.0 ∙ c.loop.invariant.3) c.loop.invariant.4
      (subst (λ (l : List Bool). (n : ℕ) × (n < length l)
      × (slice_index_or l n false ≡ false)) c.as_slice.ensures.value (c.all_marked.ensures.not_all c.if-all_marked.false)),
)
