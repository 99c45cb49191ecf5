use Rattle.std.proofs.Common.{◌≡◌, ◌<◌, ◌++◌, List, [], ◌∷◌, length, reverse, Some, sym, ap, subst, refl, ◌∙◌, arith}
use Rattle.field_bounds.specs.declared.entry.Entry.{Entry}
use Rattle.field_bounds.specs.declared.entry.Statement.{Statement}
use Rattle.field_bounds.specs.Statements.{statement_of}
use Rattle.kept_state.specs.declared.luck.Luck.TheVariants.{Fine}
use Rattle.kept_state.specs.Luck.{Lucky}
use Rattle.world_steps.specs.declared.step.WorldStep.{WorldStep}
use Rattle.world_steps.specs.declared.step.WorldStep.TheVariants.{Do}
use Rattle.world_steps.specs.World.{question_of, StepFits, with_statement, world_of, trace_by}
use Rattle.site_step.specs.Site.{SiteValue}
use Rattle.world_steps.specs.Standing.{AllFollow, AreCalm}
use Rattle.world_steps.specs.Kept.{steps_beside}
use Rattle.world_steps.specs.View.{WorldValue, IsWorld}
use Rattle.world_steps.proofs.Stand.{all_calm}
use Rattle.world_steps.proofs.Living.{asked_more, world_goes, world_same, sites_written, one_store_after}
use Rattle.world_steps.proofs.world.World.take_fine.Goals as goal

pub apply_at-requires-clause-calm : goal.apply_at-requires-clause-calm
apply_at-requires-clause-calm c =
    let f = c.self.inside in
    let w = c.self.invariant in
    let long : length f.trace.items < 18446744073709551615 = omega (arith, f.trace.ok.0, f.trace.ok.1, f.trace.small) in
    subst (λ (l : List SiteValue). AreCalm 18446744073709551615 l) (sym c.deref_mut.ensures.value)
    (all_calm f.schema (world_of f.schema (reverse (steps_beside f.trace.items f.steps)))
    (length f.trace.items) 18446744073709551615 f.sites.items long w.stand)

pub invariant_of-self-2 : goal.invariant_of-self-2
invariant_of-self-2 c =
    let f = c.self.inside in
    let w = c.self.invariant in
    let step : WorldStep = Do c.args.site c.args.command Fine in
    let steps : List WorldStep = steps_beside f.trace.items f.steps in
    let past : List Lucky = world_of f.schema (reverse steps) in
    let e : Entry = record { site = c.args.site; command = c.args.command; reply = c.in_ok-reply.reply } in
    let fits : StepFits f.schema step = subst (λ (v : WorldValue). StepFits v.schema step) (sym c.self.view_is) c.requires.fits in
    let asks : question_of (trace_by f.schema steps) step ≡ Some (e.site, e.command) = refl in
    let did = c.in_ok-reply.ensures.stand f.schema past (length f.trace.items)
    (subst (λ (l : List SiteValue). AllFollow f.schema past (length f.trace.items) l) (sym c.deref_mut.ensures.value) w.stand) in
    let sites = c.deref_mut.ensures.value in
    let count = c.apply_at.ensures.count ∙ ap (λ (l : List SiteValue). length l) sites in
    let written = sites_written _ f.sites.items c.apply_at.new.sites
    (sym c.deref_mut.ensures.len ∙ ap (λ (l : List SiteValue). length l) sites) count in
    let grown : c.push_reserved.new.self.items ≡ f.trace.items ++ e ∷ [] =
    c.push_reserved.ensures.items ∙ ap (λ (x : Entry). c.reserve.new.self.items ++ x ∷ []) c.entry_of.ensures
    ∙ ap (λ (l : List Entry). l ++ e ∷ []) c.reserve.ensures.items in
    subst (λ (l : List SiteValue). IsWorld f.schema
    (steps_beside c.push_reserved.new.self.items c.keep_asked.new.self) l c.push_reserved.new.self.items c.note_reply.new.told.items)
    (sym written)
    (world_same f.schema (steps ++ step ∷ []) _ c.apply_at.new.sites (f.trace.items ++ e ∷ []) _ c.note_reply.new.told.items
    c.note_reply.new.told.items
    (asked_more f.trace.items _ e f.steps c.reserve_asked.new.self c.keep_asked.new.self grown c.reserve_asked.ensures.same
    c.keep_asked.ensures.kept)
    grown
    (let same : c.note_reply.new.told.items ≡ c.note_reply.new.told.items = refl in same)
    (world_goes f.schema steps f.sites.items c.apply_at.new.sites f.trace.items f.issued.items c.note_reply.new.told.items step e.site
    e.command e.reply w fits
    asks did.0 did.1 count
    (c.note_reply.ensures.told ∙ ap (λ (l : List Statement). with_statement (statement_of e) (reverse l)) c.reserve_for.ensures.same)))

pub returns-clause-one_store : goal.returns-clause-one_store
returns-clause-one_store c =
    let f = c.self.inside in
    let w = c.self.invariant in
    let step : WorldStep = Do c.args.site c.args.command Fine in
    let e : Entry = record { site = c.args.site; command = c.args.command; reply = c.in_ok-reply.reply } in
    let fits : StepFits f.schema step = subst (λ (v : WorldValue). StepFits v.schema step) (sym c.self.view_is) c.requires.fits in
    let grown : c.push_reserved.new.self.items ≡ f.trace.items ++ e ∷ [] =
    c.push_reserved.ensures.items ∙ ap (λ (x : Entry). c.reserve.new.self.items ++ x ∷ []) c.entry_of.ensures
    ∙ ap (λ (l : List Entry). l ++ e ∷ []) c.reserve.ensures.items in
    one_store_after f.schema (steps_beside f.trace.items f.steps) _ step w.good w.fit fits
    (asked_more f.trace.items _ e f.steps c.reserve_asked.new.self c.keep_asked.new.self grown c.reserve_asked.ensures.same
    c.keep_asked.ensures.kept)
