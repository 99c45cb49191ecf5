use Rattle.std.proofs.Common.{◌≡◌, ◌∙◌, ℕ, List, length, take, drop, ◌-◌, ap, sym, subst}
use Rattle.std.proofs.lemmas.List.{take_rest}
use Rattle.std.specs.Io.KnownBytes.{append_known}
use Rattle.site_step.specs.Shortening.{held_of}
use Rattle.site_service.specs.Answers.{held_in}
use Rattle.site_service.specs.Service.{ServiceValue, AddsNotesFirst, IsSettled}
use Rattle.file_medium.specs.Copies.{IsCopyOf}
use Rattle.site_service.proofs.Links.{sound_follows, settled_follows, sound_lost, settled_all, adds_first, adds_nothing, front_safe}
use Rattle.site_service.proofs.Held.{held_medium}
use Rattle.site_service.proofs.service.Service.settle.Goals as goal

pub invariant_of-self : goal.invariant_of-self
invariant_of-self g c =
    let s = c.self.inside in
    let is : c.bytes-held.result.now ≡ held_of s.site = c.bytes-held.ensures.bytes ∙ held_medium c.self.inside.site c.medium.ensures.bytes in
    let rest = take_rest c.bytes-held.result.now s.settled ∙ ap (drop s.settled) is in
    let grown : g.F.LogFile.bytes c.add_both.new.file
    ≡ append_known (append_known (g.F.LogFile.bytes s.log) s.keys.lines) (drop s.settled (held_of s.site)) =
    c.in-Ok.ensures.added ∙ ap (λ (l : List ℕ). append_known (append_known (g.F.LogFile.bytes s.log) l) (take (length c.bytes-held.result.now - s.settled) (drop s.settled c.bytes-held.result.now))) c.lines.ensures.value
    ∙ ap (append_known (append_known (g.F.LogFile.bytes s.log) s.keys.lines)) rest in
    sound_follows s.site s.keys.last s.told s.lines s.waiting.items (g.F.LogFile.bytes s.log) (g.F.LogFile.safe s.log) (g.F.LogFile.least s.log) s.settled
    s.lost s.kept s.keys.lines c.self.invariant c.clear_lines.new.self.last (g.F.LogFile.least c.add_both.new.file) (g.F.LogFile.bytes c.add_both.new.file)
    (g.F.LogFile.safe c.add_both.new.file) (length c.bytes-held.result.now) c.clear_lines.new.self.lines c.clear_lines.ensures.last c.if-self.false
    grown c.in-Ok.ensures.safe (ap length is) c.clear_lines.ensures.none

pub returns-in-Ok-clause-ok : goal.returns-in-Ok-clause-ok
returns-in-Ok-clause-ok g c =
    let s = c.self.inside in
    let is : c.bytes-held.result.now ≡ held_of s.site = c.bytes-held.ensures.bytes ∙ held_medium c.self.inside.site c.medium.ensures.bytes in
    let rest = take_rest c.bytes-held.result.now s.settled ∙ ap (drop s.settled) is in
    let grown : g.F.LogFile.bytes c.add_both.new.file
    ≡ append_known (append_known (g.F.LogFile.bytes s.log) s.keys.lines) (drop s.settled (held_of s.site)) =
    c.in-Ok.ensures.added ∙ ap (λ (l : List ℕ). append_known (append_known (g.F.LogFile.bytes s.log) l) (take (length c.bytes-held.result.now - s.settled) (drop s.settled c.bytes-held.result.now))) c.lines.ensures.value
    ∙ ap (append_known (append_known (g.F.LogFile.bytes s.log) s.keys.lines)) rest in
    settled_follows s.site s.keys.last s.told s.lines s.waiting.items (g.F.LogFile.bytes s.log) (g.F.LogFile.safe s.log) (g.F.LogFile.least s.log) s.settled
    s.lost s.kept s.keys.lines c.self.invariant c.clear_lines.new.self.last (g.F.LogFile.least c.add_both.new.file) (g.F.LogFile.bytes c.add_both.new.file)
    (g.F.LogFile.safe c.add_both.new.file) (length c.bytes-held.result.now) c.clear_lines.ensures.last c.if-self.false grown c.in-Ok.ensures.safe

pub returns-in-Ok-clause-order : goal.returns-in-Ok-clause-order
returns-in-Ok-clause-order g c = λ text log.
    let s = c.self.inside in
    let is : c.bytes-held.result.now ≡ held_of s.site = c.bytes-held.ensures.bytes ∙ held_medium c.self.inside.site c.medium.ensures.bytes in
    let rest = take_rest c.bytes-held.result.now s.settled ∙ ap (drop s.settled) is in
    let grown : g.F.LogFile.bytes c.add_both.new.file
    ≡ append_known (append_known (g.F.LogFile.bytes s.log) s.keys.lines) (drop s.settled (held_of s.site)) =
    c.in-Ok.ensures.added ∙ ap (λ (l : List ℕ). append_known (append_known (g.F.LogFile.bytes s.log) l) (take (length c.bytes-held.result.now - s.settled) (drop s.settled c.bytes-held.result.now))) c.lines.ensures.value
    ∙ ap (append_known (append_known (g.F.LogFile.bytes s.log) s.keys.lines)) rest in
    subst (λ (v : ServiceValue). IsCopyOf v.log text → AddsNotesFirst (g.F.LogFile.bytes c.add_both.new.file) text v.settled (held_in v.served))
    c.self.view_is (adds_first s.site s.keys.last s.told s.lines s.waiting.items (g.F.LogFile.bytes s.log) (g.F.LogFile.safe s.log) (g.F.LogFile.least s.log) s.settled
    s.lost s.kept s.keys.lines c.self.invariant (g.F.LogFile.bytes c.add_both.new.file) grown text) log

pub returns-then-is_logged-clause-order : goal.returns-then-is_logged-clause-order
returns-then-is_logged-clause-order g c = λ text log.
    let s = c.self.inside in
    let is : c.bytes-held.result.now ≡ held_of s.site = c.bytes-held.ensures.bytes ∙ held_medium c.self.inside.site c.medium.ensures.bytes in
    adds_nothing c.args.self.now text
    (subst (λ (v : ServiceValue). v.settled ≡ length (held_in v.served)) c.self.view_is (c.if-self-all.true ∙ ap length is)) log

pub returns-in-Ok-clause-front : goal.returns-in-Ok-clause-front
returns-in-Ok-clause-front g c = λ text log safe.
    let s = c.self.inside in
    front_safe (g.F.LogFile.bytes s.log) (g.F.LogFile.safe c.add_both.new.file) _ _ text (c.in-Ok.ensures.safe ∙ c.in-Ok.ensures.added)
    (subst (λ (v : ServiceValue). IsCopyOf v.log text) (sym c.self.view_is) log)

pub invariant_of-self-in-Err : goal.invariant_of-self-in-Err
invariant_of-self-in-Err g c =
    let s = c.self.inside in
    sound_lost s.site s.keys.last s.told s.lines s.waiting.items (g.F.LogFile.bytes s.log) (g.F.LogFile.safe s.log) (g.F.LogFile.least s.log) s.settled
    s.lost s.kept s.keys.lines c.self.invariant (g.F.LogFile.least c.add_both.new.file) (g.F.LogFile.bytes c.add_both.new.file) (g.F.LogFile.safe c.add_both.new.file)

pub returns-then-is_logged-clause-ok : goal.returns-then-is_logged-clause-ok
returns-then-is_logged-clause-ok g c =
    let s = c.self.inside in
    let is : c.bytes-held.result.now ≡ held_of s.site = c.bytes-held.ensures.bytes ∙ held_medium c.self.inside.site c.medium.ensures.bytes in
    subst IsSettled c.self.view_is
    (settled_all s.site s.keys.last s.told s.lines s.waiting.items (g.F.LogFile.bytes s.log) (g.F.LogFile.safe s.log) (g.F.LogFile.least s.log) s.settled
    s.lost s.kept s.keys.lines c.self.invariant c.if-self.false (c.if-self-all.true ∙ ap length is) (c.is_logged.ensures.none c.if-is_logged.true))
