use Rattle.std.proofs.Common.{◌≡◌, ◌+◌, ◌<◌, ◌++◌, List, [], ◌∷◌, length, reverse, None, sym, ap, subst, refl, ◌∙◌, arith}
use Rattle.field_bounds.specs.declared.entry.Entry.{Entry}
use Rattle.field_bounds.specs.declared.entry.Statement.{Statement}
use Rattle.field_bounds.specs.Effects.{fresh}
use Rattle.field_bounds.specs.Statements.{statement_of}
use Rattle.kept_state.specs.declared.luck.Luck.{Luck}
use Rattle.kept_state.specs.Luck.{Lucky, own_lucky, lucky_reply}
use Rattle.world_steps.specs.declared.step.WorldStep.{WorldStep}
use Rattle.world_steps.specs.World.{question_of, StepFits, with_statement, world_of, trace_by}
use Rattle.site_step.specs.Site.{SiteValue}
use Rattle.world_steps.specs.Standing.{AllFollow, AreCalm}
use Rattle.world_steps.specs.Kept.{steps_beside}
use Rattle.world_steps.specs.View.{WorldValue, IsWorld}
use Rattle.world_steps.proofs.Stand.{all_calm}
use Rattle.world_steps.proofs.Living.{missed_more, made_more, world_idle, world_goes, world_same, sites_written, step_known, one_store_after}
use Rattle.world_steps.proofs.world.World.take_step.Goals as goal

pub keep_missed-requires-clause-missed : goal.keep_missed-requires-clause-missed
keep_missed-requires-clause-missed c =
    let f = c.self.inside in
    let past : List Entry = trace_by f.schema (steps_beside f.trace.items f.steps) in
    let told : c.deref.result.now ≡ f.issued.items = c.deref.ensures.value ∙ c.reserve-3.ensures.items in
    let is = c.question_of.ensures.value past (ap (λ (l : List Statement). reverse l) told ∙ c.self.invariant.told_is) in
    (past, sym is ∙ c.in_default.is)

pub invariant_of-self-in_default : goal.invariant_of-self-in_default
invariant_of-self-in_default c =
    let f = c.self.inside in
    let w = c.self.invariant in
    let step : WorldStep = c.args.step.now in
    let steps : List WorldStep = steps_beside f.trace.items f.steps in
    let fits : StepFits f.schema step = subst (λ (v : WorldValue). StepFits v.schema step) (sym c.self.view_is) c.requires.fits in
    let told : c.deref.result.now ≡ f.issued.items = c.deref.ensures.value ∙ c.reserve-3.ensures.items in
    let is = c.question_of.ensures.value (trace_by f.schema steps) (ap (λ (l : List Statement). reverse l) told ∙ w.told_is) in
    let none : question_of (trace_by f.schema steps) step ≡ None = sym is ∙ c.in_default.is in
    world_same f.schema (steps ++ step ∷ []) _ f.sites.items f.trace.items _ f.issued.items _
    (missed_more f.trace.items _ f.steps c.reserve.new.self c.keep_missed.new.self step c.reserve-2.ensures.items c.reserve.ensures.same
    c.keep_missed.ensures.kept)
    c.reserve-2.ensures.items c.reserve-3.ensures.items
    (world_idle f.schema steps f.sites.items f.trace.items f.issued.items step w fits none)

pub apply_at-requires-clause-known : goal.apply_at-requires-clause-known
apply_at-requires-clause-known c =
    let f = c.self.inside in
    let w = c.self.invariant in
    let steps : List WorldStep = steps_beside f.trace.items f.steps in
    let fits : StepFits f.schema c.args.step.now =
    subst (λ (v : WorldValue). StepFits v.schema c.args.step.now) (sym c.self.view_is) c.requires.fits in
    let told : c.deref.result.now ≡ f.issued.items = c.deref.ensures.value ∙ c.reserve-3.ensures.items in
    let is = c.question_of.ensures.value (trace_by f.schema steps) (ap (λ (l : List Statement). reverse l) told ∙ w.told_is) in
    subst (λ (l : List SiteValue). c.in-Some.site.0 < length l) (sym c.deref_mut.ensures.value)
    (step_known f.schema steps f.sites.items f.trace.items f.issued.items c.args.step.now c.in-Some.site c.in-Some.command w fits
    (sym is ∙ c.in-Some.is))

pub apply_at-requires-clause-calm : goal.apply_at-requires-clause-calm
apply_at-requires-clause-calm c =
    let f = c.self.inside in
    let w = c.self.invariant in
    let long : length f.trace.items < 18446744073709551615 = omega (arith, f.trace.ok.0, f.trace.ok.1, f.trace.small) in
    subst (λ (l : List SiteValue). AreCalm 18446744073709551615 l) (sym c.deref_mut.ensures.value)
    (all_calm f.schema (world_of f.schema (reverse (steps_beside f.trace.items f.steps)))
    (length f.trace.items) 18446744073709551615 f.sites.items long w.stand)

pub invariant_of-self-2 : goal.invariant_of-self-2
invariant_of-self-2 c =
    let f = c.self.inside in
    let w = c.self.invariant in
    let step : WorldStep = c.args.step.now in
    let steps : List WorldStep = steps_beside f.trace.items f.steps in
    let past : List Lucky = world_of f.schema (reverse steps) in
    let e : Entry = record { site = c.in-Some.site; command = c.in-Some.command; reply = c.in_ok-reply.reply } in
    let fits : StepFits f.schema step = subst (λ (v : WorldValue). StepFits v.schema step) (sym c.self.view_is) c.requires.fits in
    let told : c.deref.result.now ≡ f.issued.items = c.deref.ensures.value ∙ c.reserve-3.ensures.items in
    let is = c.question_of.ensures.value (trace_by f.schema steps) (ap (λ (l : List Statement). reverse l) told ∙ w.told_is) in
    let asks = sym is ∙ c.in-Some.is in
    let did = c.in_ok-reply.ensures.stand f.schema past (length f.trace.items)
    (subst (λ (l : List SiteValue). AllFollow f.schema past (length f.trace.items) l) (sym c.deref_mut.ensures.value) w.stand) in
    let lucky = subst (λ (l : Luck). (e.reply ≡ lucky_reply f.schema e.site.0 (fresh f.schema e.site.0)
    (own_lucky e.site.0 past) e.command l)
    × AllFollow f.schema ((e, l) ∷ past) (length f.trace.items + 1) c.apply_at.new.sites) c.luck_of.ensures.value did in
    let sites = c.deref_mut.ensures.value in
    let count = c.apply_at.ensures.count ∙ ap (λ (l : List SiteValue). length l) sites in
    let written = sites_written _ f.sites.items c.apply_at.new.sites
    (sym c.deref_mut.ensures.len ∙ ap (λ (l : List SiteValue). length l) sites) count in
    subst (λ (l : List SiteValue). IsWorld f.schema
    (steps_beside c.push_reserved.new.self.items c.keep_made.new.self) l c.push_reserved.new.self.items c.note.new.told.items)
    (sym written)
    (world_same f.schema (steps ++ step ∷ []) _ c.apply_at.new.sites (f.trace.items ++ e ∷ []) _ c.note.new.told.items c.note.new.told.items
    (made_more (trace_by f.schema steps) f.trace.items _ _ e f.steps c.reserve.new.self c.keep_made.new.self step c.reserve-2.ensures.items
    c.push_reserved.ensures.items c.reserve.ensures.same asks c.keep_made.ensures.kept)
    (c.push_reserved.ensures.items ∙ ap (λ (l : List Entry). l ++ e ∷ []) c.reserve-2.ensures.items)
    (let same : c.note.new.told.items ≡ c.note.new.told.items = refl in same)
    (world_goes f.schema steps f.sites.items c.apply_at.new.sites f.trace.items f.issued.items c.note.new.told.items step e.site e.command
    e.reply w fits
    asks lucky.0 lucky.1 count
    (c.note.ensures.told ∙ ap (λ (l : List Statement). with_statement (statement_of e) (reverse l)) c.reserve-3.ensures.items)))

pub returns-in_default-clause-one_store : goal.returns-in_default-clause-one_store
returns-in_default-clause-one_store c =
    let f = c.self.inside in
    let w = c.self.invariant in
    let step : WorldStep = c.args.step.now in
    let fits : StepFits f.schema step = subst (λ (v : WorldValue). StepFits v.schema step) (sym c.self.view_is) c.requires.fits in
    one_store_after f.schema (steps_beside f.trace.items f.steps) _ step w.good w.fit fits
    (missed_more f.trace.items _ f.steps c.reserve.new.self c.keep_missed.new.self step c.reserve-2.ensures.items c.reserve.ensures.same
    c.keep_missed.ensures.kept)

pub returns-clause-one_store : goal.returns-clause-one_store
returns-clause-one_store c =
    let f = c.self.inside in
    let w = c.self.invariant in
    let step : WorldStep = c.args.step.now in
    let past : List Entry = trace_by f.schema (steps_beside f.trace.items f.steps) in
    let e : Entry = record { site = c.in-Some.site; command = c.in-Some.command; reply = c.in_ok-reply.reply } in
    let fits : StepFits f.schema step = subst (λ (v : WorldValue). StepFits v.schema step) (sym c.self.view_is) c.requires.fits in
    let told : c.deref.result.now ≡ f.issued.items = c.deref.ensures.value ∙ c.reserve-3.ensures.items in
    let is = c.question_of.ensures.value past (ap (λ (l : List Statement). reverse l) told ∙ w.told_is) in
    one_store_after f.schema (steps_beside f.trace.items f.steps) _ step w.good w.fit fits
    (made_more past f.trace.items _ _ e f.steps c.reserve.new.self c.keep_made.new.self step c.reserve-2.ensures.items
    c.push_reserved.ensures.items c.reserve.ensures.same (sym is ∙ c.in-Some.is) c.keep_made.ensures.kept)
