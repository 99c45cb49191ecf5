use Rattle.kept_records.specs.declared.record.Record.{Record}
use Rattle.kept_records.specs.Stands.{plain, max_behind}
use Rattle.std.proofs.Common.{◌≡◌, ℕ, ◌+◌, List, length, ap, ◌∙◌, arith, refl}
use Rattle.std.specs.Prelude.{nat_le, if◌then◌else◌}
use Rattle.std.proofs.lemmas.List.{length-reverse}
use Rattle.site_step.specs.Resuming.{found_by}
use Rattle.site_step.proofs.Extents.{reach_counted, found_counted}
use Rattle.site_step.proofs.Calls.{grew, holds_behind, held_log_now, limits, seam, fails, fills, can_restart, few_more, restarts}
use Rattle.site_step.proofs.site.Site.restart.Goals as goal

pub resume-requires-clause-log : goal.resume-requires-clause-log
resume-requires-clause-log g c = held_log_now c.self.invariant c.self.view_is refl

pub resume-requires-clause-limits : goal.resume-requires-clause-limits
resume-requires-clause-limits g c = limits c.self.invariant c.self.view_is

pub resume-requires-clause-place : goal.resume-requires-clause-place
resume-requires-clause-place g c = seam c.self.invariant c.self.view_is refl

pub invariant_of-self-in-NumbersFull : goal.invariant_of-self-in-NumbersFull
invariant_of-self-in-NumbersFull g c =
    let s = c.self.invariant in
    (fills s c.self.view_is (g.M.Medium.bytes c.self.inside.medium) refl (rw c.in-NumbersFull.is at c.in_ok-turns.ensures.resumes c.self.inside.gone.items s.held s.rest (holds_behind s c.self.view_is refl))
    (grew c.tell-in-NumbersFull.ensures.told c.in_ok-reserve.ensures.items)).sound

pub returns-in-NumbersFull-clause-ok : goal.returns-in-NumbersFull-clause-ok
returns-in-NumbersFull-clause-ok g c =
    let s = c.self.invariant in
    (fills s c.self.view_is (g.M.Medium.bytes c.self.inside.medium) refl (rw c.in-NumbersFull.is at c.in_ok-turns.ensures.resumes c.self.inside.gone.items s.held s.rest (holds_behind s c.self.view_is refl))
    (grew c.tell-in-NumbersFull.ensures.told c.in_ok-reserve.ensures.items)).applies

pub stand_on-requires : goal.stand_on-requires
stand_on-requires g c =
    let s = c.self.invariant in
    let can = can_restart s c.self.view_is c.in-Standing.standing c.in-Standing.epoch
    (rw c.in-Standing.is at c.in_ok-turns.ensures.resumes c.self.inside.gone.items s.held s.rest (holds_behind s c.self.view_is refl)) in
    record { places = can.0; can = can.1; ranges = can.2 }

pub invariant_of-self-in-Failed : goal.invariant_of-self-in-Failed
invariant_of-self-in-Failed g c =
    let s = c.self.invariant in
    (fails s c.self.view_is c.in-Failed.turns c.unwrap_or-self-inside.result (g.M.Medium.bytes c.self.inside.medium) refl
    (rw c.in-Failed.is at c.in_ok-turns.ensures.resumes c.self.inside.gone.items s.held s.rest (holds_behind s c.self.view_is refl))
    c.unwrap_or-self-inside.ensures
    (grew c.tell.ensures.told c.in_ok-reserve.ensures.items)).sound

pub returns-in-Failed-clause-ok : goal.returns-in-Failed-clause-ok
returns-in-Failed-clause-ok g c =
    let s = c.self.invariant in
    (fails s c.self.view_is c.in-Failed.turns c.unwrap_or-self-inside.result (g.M.Medium.bytes c.self.inside.medium) refl
    (rw c.in-Failed.is at c.in_ok-turns.ensures.resumes c.self.inside.gone.items s.held s.rest (holds_behind s c.self.view_is refl))
    c.unwrap_or-self-inside.ensures
    (grew c.tell.ensures.told c.in_ok-reserve.ensures.items)).applies

pub reach-requires : goal.reach-requires
reach-requires g c =
    let s = c.self.invariant in
    let i = c.self.inside in
    let did = rw c.in-Standing.is at c.in_ok-turns.ensures.resumes i.gone.items s.held s.rest (holds_behind s c.self.view_is refl) in
    let many : c.count_plain.result ≡ length (plain c.in-Standing.behind.items) =
    c.count_plain.ensures.count ∙ ap (λ (x : List Record). length (plain x)) c.deref-in-Standing.ensures.value in
    record {
      few = omega (
        arith,
        few_more s c.self.view_is (g.M.Medium.bytes i.medium) i.past.items i.based.list.items i.extent refl refl refl
            c.in-Standing.behind.items did.2,
        many,
        length-reverse (g.H.History.items i.history),
        g.met.H.History.few i.history,
        i.based.counted,
        i.based.small,
      );
    }

pub invariant_of-self-in-Standing : goal.invariant_of-self-in-Standing
invariant_of-self-in-Standing g c =
    let s = c.self.invariant in
    let i = c.self.inside in
    let uncounted : ℕ = length (plain i.past.items) in
    let behinds : ℕ = if nat_le max_behind (c.in-Standing.turns + 1) then 0 else c.in-Standing.turns + 1 in
    let many : c.count_plain.result ≡ length (plain c.in-Standing.behind.items) =
    c.count_plain.ensures.count ∙ ap (λ (x : List Record). length (plain x)) c.deref-in-Standing.ensures.value in
    (restarts s c.self.view_is c.in-Standing.standing c.in-Standing.behind.items c.in-Standing.epoch
    c.in-Standing.turns c.in-Standing.length behinds c.last_of-last.result refl
    (rw c.in-Standing.is at c.in_ok-turns.ensures.resumes i.gone.items s.held s.rest (holds_behind s c.self.view_is refl))
    c.stand_on.ensures.took c.stand_on.ensures.journal c.stand_on.ensures.last
    (c.last_of-last.ensures ∙ ap (found_by i.doubt) c.deref.ensures.value ∙ found_counted uncounted i.doubt c.in-Standing.behind.items)
    many refl
    (grew c.tell-in-Standing.ensures.told c.in_ok-reserve.ensures.items)
    (reach_counted uncounted c.count_plain.result c.in-Standing.length behinds i.extent c.reach.ensures.reached)).sound

pub returns-in-Standing-clause-ok : goal.returns-in-Standing-clause-ok
returns-in-Standing-clause-ok g c =
    let s = c.self.invariant in
    let i = c.self.inside in
    let uncounted : ℕ = length (plain i.past.items) in
    let behinds : ℕ = if nat_le max_behind (c.in-Standing.turns + 1) then 0 else c.in-Standing.turns + 1 in
    let many : c.count_plain.result ≡ length (plain c.in-Standing.behind.items) =
    c.count_plain.ensures.count ∙ ap (λ (x : List Record). length (plain x)) c.deref-in-Standing.ensures.value in
    (restarts s c.self.view_is c.in-Standing.standing c.in-Standing.behind.items c.in-Standing.epoch
    c.in-Standing.turns c.in-Standing.length behinds c.last_of-last.result refl
    (rw c.in-Standing.is at c.in_ok-turns.ensures.resumes i.gone.items s.held s.rest (holds_behind s c.self.view_is refl))
    c.stand_on.ensures.took c.stand_on.ensures.journal c.stand_on.ensures.last
    (c.last_of-last.ensures ∙ ap (found_by i.doubt) c.deref.ensures.value ∙ found_counted uncounted i.doubt c.in-Standing.behind.items)
    many refl
    (grew c.tell-in-Standing.ensures.told c.in_ok-reserve.ensures.items)
    (reach_counted uncounted c.count_plain.result c.in-Standing.length behinds i.extent c.reach.ensures.reached)).applies
