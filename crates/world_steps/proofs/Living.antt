-- One more step of a world.
use Rattle.std.specs.Prelude.{Result, Ok, Err, OnOk}
use Rattle.std.proofs.Common.{◌≡◌, ℕ, ◌+◌, ◌<◌, List, [], ◌∷◌, ◌++◌, length, take, drop, reverse, sym, ap, subst, refl, ◌∙◌, arith, Option, Some, None, All}
use Rattle.std.proofs.lemmas.List.{reverse-append, length-append}
use Rattle.std.proofs.lemmas.List.Elements.{All-push, All-tail, All-head}
use Rattle.std.proofs.Math.Seq.{take-append_seam}
use Rattle.field_bounds.specs.declared.id.SiteNo.{SiteNo}
use Rattle.field_bounds.specs.declared.entry.Statement.{Statement}
use Rattle.field_bounds.specs.declared.entry.Command.{Command}
use Rattle.field_bounds.specs.declared.entry.Reply.{Reply}
use Rattle.field_bounds.specs.declared.entry.Reply.TheVariants.{Granted}
use Rattle.field_bounds.specs.declared.entry.Entry.{Entry}
use Rattle.field_bounds.specs.Schema.{SchemaValue}
use Rattle.field_bounds.specs.Limits.{IsSchema}
use Rattle.field_bounds.specs.Effects.{fresh}
use Rattle.field_bounds.specs.Statements.{statement_of}
use Rattle.field_bounds.proofs.Conserved.{conserved_throughout}
use Rattle.field_bounds.proofs.Headline.{sound_is_central}
use Rattle.kept_state.specs.Luck.{Lucky, entries, own_lucky, lucky_reply}
use Rattle.kept_state.specs.declared.luck.Luck.TheVariants.{Fine}
use Rattle.site_step.specs.Site.{SiteValue}
use Rattle.world_steps.specs.declared.step.WorldStep.{WorldStep}
use Rattle.world_steps.specs.declared.step.WorldStep.TheVariants.{Do}
use Rattle.world_steps.specs.declared.beside_trace.StepNotes.{StepNotes}
use Rattle.world_steps.specs.World.{with_statement, statements_issued, question_of, luck_of, StepFits, with_entry, world_of, trace_by}
use Rattle.world_steps.specs.Promises.{IsOneStore}
use Rattle.world_steps.specs.Standing.{AllFollow}
use Rattle.world_steps.specs.Kept.{steps_beside, SameKept}
use Rattle.world_steps.specs.View.{WorldValue, trace_of, IsWorld}
use Rattle.world_steps.proofs.Sound.{StepsFit, step_allows, world_is_sound, bounded_throughout, outcomes_throughout, only_tighten, none_strange}

-- ---- what is kept of the steps

-- the same that is kept tells the same steps
same_steps : (trace tracing : List Entry) (kept ready : StepNotes) → tracing ≡ trace → SameKept kept ready
    → steps_beside tracing ready ≡ steps_beside trace kept
same_steps trace tracing kept ready is same = rw (is, same.ways, same.numbers, same.torn)

-- so one more step is told, once there was room for it: one that made no entry
pub missed_more : (trace tracing : List Entry) (kept ready later : StepNotes) (step : WorldStep) → tracing ≡ trace → SameKept kept ready
    → ((t : List Entry) → steps_beside t later ≡ steps_beside t ready ++ step ∷ [])
    → steps_beside tracing later ≡ steps_beside trace kept ++ step ∷ []
missed_more trace tracing kept ready later step is same more =
    more tracing ∙ ap (λ (l : List WorldStep). l ++ step ∷ []) (same_steps trace tracing kept ready is same)

-- and one that made an entry
pub made_more : (past trace before tracing : List Entry) (e : Entry) (kept ready later : StepNotes) (step : WorldStep) → before ≡ trace
    → tracing ≡ before ++ e ∷ [] → SameKept kept ready
    → question_of past step ≡ Some (e.site, e.command)
    → ((p t : List Entry) (x : Entry) → question_of p step ≡ Some (x.site, x.command)
    → steps_beside (t ++ x ∷ []) later ≡ steps_beside t ready ++ step ∷ [])
    → steps_beside tracing later ≡ steps_beside trace kept ++ step ∷ []
made_more past trace before tracing e kept ready later step is grown same asks more =
    ap (λ (l : List Entry). steps_beside l later) grown ∙ more past before e asks
    ∙ ap (λ (l : List WorldStep). l ++ step ∷ []) (same_steps trace before kept ready is same)

-- and a command whose luck was fine
pub asked_more : (trace tracing : List Entry) (e : Entry) (kept ready later : StepNotes) → tracing ≡ trace ++ e ∷ []
    → SameKept kept ready
    → ((t : List Entry) (x : Entry) → steps_beside (t ++ x ∷ []) later ≡ steps_beside t ready ++ Do x.site x.command Fine ∷ [])
    → steps_beside tracing later ≡ steps_beside trace kept ++ Do e.site e.command Fine ∷ []
asked_more trace tracing e kept ready later grown same more =
    ap (λ (l : List Entry). steps_beside l later) grown ∙ more trace e
    ∙ ap (λ (l : List WorldStep). l ++ Do e.site e.command Fine ∷ []) (same_steps trace trace kept ready refl same)

-- ---- what is lived, after one more step

past_more : (schema : SchemaValue) (steps : List WorldStep) (step : WorldStep)
    → world_of schema (reverse (steps ++ step ∷ []))
    ≡ with_entry schema (question_of (trace_by schema steps) step) (luck_of step) (world_of schema (reverse steps))
past_more schema steps step = ap (λ (l : List WorldStep). world_of schema l) (reverse-append steps (step ∷ []))

pub past_idle : (schema : SchemaValue) (steps : List WorldStep) (step : WorldStep) → question_of (trace_by schema steps) step ≡ None
    → world_of schema (reverse (steps ++ step ∷ [])) ≡ world_of schema (reverse steps)
past_idle schema steps step none =
    past_more schema steps step ∙ ap (λ (o : Option (SiteNo × Command)).
    with_entry schema o (luck_of step) (world_of schema (reverse steps))) none

pub past_goes : (schema : SchemaValue) (steps : List WorldStep) (step : WorldStep) (site : SiteNo) (command : Command) (reply : Reply)
    → question_of (trace_by schema steps) step ≡ Some (site, command)
    → reply ≡ lucky_reply schema site.0 (fresh schema site.0) (own_lucky site.0 (world_of schema (reverse steps))) command (luck_of step)
    → world_of schema (reverse (steps ++ step ∷ [])) ≡ (record { site = site; command = command; reply = reply }, luck_of step)
    ∷ world_of schema (reverse steps)
past_goes schema steps step site command reply some is =
    let past : List Lucky = world_of schema (reverse steps) in
    past_more schema steps step
    ∙ ap (λ (o : Option (SiteNo × Command)). with_entry schema o (luck_of step) past) some
    ∙ ap (λ (r : Reply). (let e : Entry = record { site = site; command = command; reply = r } in (e, luck_of step)) ∷ past) (sym is)

-- ---- the world after one more step

pub world_idle : (schema : SchemaValue) (steps : List WorldStep) (sites : List SiteValue) (trace : List Entry) (told : List Statement)
    (step : WorldStep)
    → IsWorld schema steps sites trace told → StepFits schema step → question_of (trace_by schema steps) step ≡ None
    → IsWorld schema (steps ++ step ∷ []) sites trace told
world_idle schema steps sites trace told step w fits none =
    let same = sym (past_idle schema steps step none) in
    record {
      good = w.good;
      fit = All-push (StepFits schema) steps step w.fit fits;
      count = w.count;
      stand = subst (λ (past : List Lucky). AllFollow schema past (length trace) sites) same w.stand;
      trace_is = w.trace_is ∙ ap entries same;
      told_is = w.told_is ∙ ap (λ (past : List Lucky). statements_issued (entries past)) same;
    }

pub world_goes : (schema : SchemaValue) (steps : List WorldStep) (sites moved : List SiteValue) (trace : List Entry)
    (told telling : List Statement) (step : WorldStep)
    (site : SiteNo) (command : Command) (reply : Reply)
    → IsWorld schema steps sites trace told → StepFits schema step → question_of (trace_by schema steps) step ≡ Some (site, command)
    → reply ≡ lucky_reply schema site.0 (fresh schema site.0) (own_lucky site.0 (world_of schema (reverse steps))) command (luck_of step)
    → AllFollow schema ((record { site = site; command = command; reply = reply }, luck_of step) ∷ world_of schema (reverse steps))
    (length trace + 1) moved
    → length moved ≡ length sites
    → reverse telling ≡ with_statement (statement_of (record { site = site; command = command; reply = reply })) (reverse told)
    → IsWorld schema (steps ++ step ∷ []) moved (trace ++ record { site = site; command = command; reply = reply } ∷ []) telling
world_goes schema steps sites moved trace told telling step site command reply w fits some is stand count told_is =
    let past : List Lucky = world_of schema (reverse steps) in
    let e : Entry = record { site = site; command = command; reply = reply } in
    let same = sym (past_goes schema steps step site command reply some is) in
    let longer : length trace + 1 ≡ length (trace ++ e ∷ []) = omega (arith, length-append trace (e ∷ [])) in
    record {
      good = w.good;
      fit = All-push (StepFits schema) steps step w.fit fits;
      count = count ∙ w.count;
      stand = subst (λ (l : List Lucky). AllFollow schema l (length (trace ++ e ∷ [])) moved) same
          (subst (λ (n : ℕ). AllFollow schema ((e, luck_of step) ∷ past) n moved) longer stand);
      trace_is = reverse-append trace (e ∷ []) ∙ ap (λ (t : List Entry). e ∷ t) w.trace_is ∙ ap entries same;
      told_is = told_is ∙ ap (λ (l : List Statement). with_statement (statement_of e) l) w.told_is
          ∙ ap (λ (l : List Lucky). statements_issued (entries l)) same;
    }

-- the same world in equal lists
pub world_same : (schema : SchemaValue) (steps more : List WorldStep) (sites : List SiteValue) (trace tracing : List Entry)
    (told telling : List Statement)
    → more ≡ steps → tracing ≡ trace → telling ≡ told → IsWorld schema steps sites trace told → IsWorld schema more sites tracing telling
world_same schema steps more sites trace tracing told telling a b c w =
    subst (λ (l : List WorldStep). IsWorld schema l sites tracing telling) (sym a)
    (subst (λ (l : List Entry). IsWorld schema steps sites l telling) (sym b)
    (subst (λ (l : List Statement). IsWorld schema steps sites trace l) (sym c) w))

-- a slice of all sites writes all of them
pub sites_written : (count : ℕ) (sites moved : List SiteValue) → count ≡ length sites → length moved ≡ length sites
    → take count (moved ++ drop (length moved) sites) ≡ moved
sites_written count sites moved all same =
    ap (λ (n : ℕ). take n (moved ++ drop (length moved) sites)) (all ∙ sym same) ∙ take-append_seam moved (drop (length moved) sites)

-- ---- what follows

steps_more : (schema : SchemaValue) (older : List WorldStep) (step : WorldStep) → StepsFit schema older → StepFits schema step
    → StepsFit schema (older ++ step ∷ [])
steps_more schema [] step h s = (tt, s)
steps_more schema (x ∷ older) step h s = (steps_more schema older step h.0 s, h.1)

all_fit : (schema : SchemaValue) (steps : List WorldStep) → All (StepFits schema) steps → StepsFit schema (reverse steps)
all_fit schema [] h = tt
all_fit schema (x ∷ steps) h =
    subst (λ (l : List WorldStep). StepsFit schema l) (sym (reverse-append (x ∷ []) steps))
    (steps_more schema (reverse steps) x (all_fit schema steps (All-tail (StepFits schema) x steps h))
    (All-head (StepFits schema) x steps h))

-- steps that fit, the newest first, are lived as one store
pub one_store : (schema : SchemaValue) → IsSchema schema → (steps : List WorldStep) → StepsFit schema steps
    → IsOneStore schema (entries (world_of schema steps))
one_store schema good steps fit =
    let sound = world_is_sound schema steps fit in
    let bounded = bounded_throughout schema good _ sound in
    record {
      sound = sound;
      central = sound_is_central schema good _ sound;
      conserved = conserved_throughout schema good _ sound;
      bounded = bounded;
      outcomes = outcomes_throughout schema good _ sound;
      tighter = only_tighten schema _;
      none_strange = none_strange schema good steps fit;
    }

-- and so is every list of steps of a world, the oldest first
pub one_store_of : (schema : SchemaValue) → IsSchema schema → (steps : List WorldStep) → All (StepFits schema) steps
    → IsOneStore schema (trace_by schema steps)
one_store_of schema good steps fit = one_store schema good (reverse steps) (all_fit schema steps fit)

-- as callers see it
pub one_store_seen : (v : WorldValue) (schema : SchemaValue) (steps : List WorldStep) (sites : List SiteValue) (trace : List Entry)
    (told : List Statement)
    → IsWorld schema steps sites trace told → record { schema = schema; steps = steps } ≡ v → IsOneStore v.schema (trace_of v)
one_store_seen v schema steps sites trace told w is =
    subst (λ (x : WorldValue). IsOneStore x.schema (trace_of x)) is (one_store_of schema w.good steps w.fit)

-- and so with one more step that fits
pub one_store_after : (schema : SchemaValue) (steps more : List WorldStep) (step : WorldStep)
    → IsSchema schema → All (StepFits schema) steps → StepFits schema step → more ≡ steps ++ step ∷ []
    → IsOneStore schema (trace_by schema more)
one_store_after schema steps more step good fit fits is =
    subst (λ (l : List WorldStep). IsOneStore schema (trace_by schema l)) (sym is)
    (one_store_of schema good (steps ++ step ∷ []) (All-push (StepFits schema) steps step fit fits))

-- what follows where there is a value
pub part_of : {T E P Q : Type 0} → (r : Result T E) → OnOk r P → (P → Q) → OnOk r Q
part_of (Ok x) is f = f is
part_of (Err e) is f = tt

-- the site of a step is one of the world's
pub step_known : (schema : SchemaValue) (steps : List WorldStep) (sites : List SiteValue) (trace : List Entry) (told : List Statement)
    (step : WorldStep) (site : SiteNo) (command : Command)
    → IsWorld schema steps sites trace told → StepFits schema step → question_of (trace_by schema steps) step ≡ Some (site, command)
    → site.0 < length sites
step_known schema steps sites trace told step site command w fits is =
    let known = (step_allows schema _ (one_store_of schema w.good steps w.fit).sound step fits (site, command) Granted is).0 in
    omega (arith, known, w.count)
