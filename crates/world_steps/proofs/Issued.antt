-- Statements that were issued, and their numbers.
use Rattle.std.proofs.Common.{◌≡◌, ℕ, suc, ◌<◌, ◌⊎◌, Bool, true, false, cond, List, [], ◌∷◌, length, refl, sym, ap, subst, inl, inr, eqb, Option, Some, None}
use Rattle.std.proofs.lemmas.Option.{same_Some}
use Rattle.field_bounds.specs.declared.id.SiteNo.{SiteNo}
use Rattle.field_bounds.specs.declared.entry.Statement.{Statement}
use Rattle.field_bounds.specs.declared.entry.Command.{Command}
use Rattle.field_bounds.specs.declared.entry.Command.TheVariants.{Give, Restate, Spare}
use Rattle.field_bounds.specs.declared.entry.Reply.{Reply}
use Rattle.field_bounds.specs.declared.entry.Reply.TheVariants.{Given, Stated, Spared}
use Rattle.field_bounds.specs.declared.entry.Entry.{Entry}
use Rattle.field_bounds.specs.Schema.{SchemaValue}
use Rattle.field_bounds.specs.Effects.{fresh}
use Rattle.field_bounds.specs.Owed.{Place, place, Fits}
use Rattle.field_bounds.specs.Statements.{told_by, statement_of, IsIssued}
use Rattle.field_bounds.specs.Central.{own, IsSound}
use Rattle.field_bounds.proofs.Refused.{answered, give_is_to_a_site, restate_is_to_a_site, spare_is_to_a_site}
use Rattle.field_bounds.proofs.Traces.{sound_front, sound_fits}
use Rattle.field_bounds.proofs.Ledgers.{told_is_covered}
use Rattle.world_steps.specs.World.{with_statement, statements_issued, statement_at}

-- ---- giver and receiver of a statement are in the schema

told_to : (at : Place) (from : SiteNo) (c : Command) (r : Reply) (told : Statement) → Fits at c r → told_by from c r ≡ Some told
    → told.to.0 < at.schema.sites
told_to at from (Give to field kind amount) (Given total) told fits h =
    let none = (answered at (Give to field kind amount) (Given total) fits refl).0 in
    let made : Statement = record { from = from; to = to; field = field; kind = kind; total = total } in
    subst (λ (x : Statement). x.to.0 < at.schema.sites) (same_Some made told h) (give_is_to_a_site at to field kind amount none)
told_to at from (Restate to field kind) (Stated total) told fits h =
    let none = (answered at (Restate to field kind) (Stated total) fits refl).0 in
    let made : Statement = record { from = from; to = to; field = field; kind = kind; total = total } in
    subst (λ (x : Statement). x.to.0 < at.schema.sites) (same_Some made told h) (restate_is_to_a_site at to field kind none)
told_to at from (Spare to field kind want) (Spared amount total) told fits h =
    let none = (answered at (Spare to field kind want) (Spared amount total) fits refl).0 in
    let made : Statement = record { from = from; to = to; field = field; kind = kind; total = total } in
    subst (λ (x : Statement). x.to.0 < at.schema.sites) (same_Some made told h) (spare_is_to_a_site at to field kind want none)
told_to at from c r told fits h = cc

pub issued_to : (schema : SchemaValue) (t : List Entry) → IsSound schema t → (told : Statement) → IsIssued told t → told.to.0 < schema.sites
issued_to schema [] sound told h = absurd h
issued_to schema (e ∷ t) sound told (inr before) = issued_to schema t (sound_front schema e t sound) told before
issued_to schema (e ∷ t) sound told (inl now) =
    told_to (place schema e.site.0 (fresh schema e.site.0) (own e.site.0 t)) e.site e.command e.reply told (sound_fits schema e t sound) now

pub issued_from : (schema : SchemaValue) (t : List Entry) → IsSound schema t → (told : Statement) → IsIssued told t
    → told.from.0 < schema.sites
issued_from schema [] sound told h = absurd h
issued_from schema (e ∷ t) sound told (inr before) = issued_from schema t (sound_front schema e t sound) told before
issued_from schema (e ∷ t) sound told (inl now) =
    let told_now = told_is_covered (place schema e.site.0 (fresh schema e.site.0) (own e.site.0 t)) e.site e.command e.reply told
    (sound_fits schema e t sound) now in
    subst (λ (x : SiteNo). x.0 < schema.sites) (sym told_now.0) sound.sites.1

-- ---- a statement that a number names was issued

abbrev IsAmong : Statement → List Statement → Type 0
IsAmong x [] = ⊥
IsAmong x (y ∷ ys) = (y ≡ x) ⊎ IsAmong x ys

numbered_step : (b : Bool) (y x : Statement) (ys : List Statement) (rest : Option Statement) → cond b (Some y) rest ≡ Some x
    → (rest ≡ Some x → IsAmong x ys) → IsAmong x (y ∷ ys)
numbered_step true y x ys rest h more = inl (same_Some y x h)
numbered_step false y x ys rest h more = inr (more h)

numbered_is_among : (k : ℕ) (ys : List Statement) (x : Statement) → statement_at k ys ≡ Some x → IsAmong x ys
numbered_is_among k [] x h = cc
numbered_is_among k (y ∷ ys) x h = numbered_step (eqb k (suc (length ys))) y x ys (statement_at k ys) h (numbered_is_among k ys x)

issued_step : (o : Option Statement) (x : Statement) (ys : List Statement) (Earlier : Type 0) → (IsAmong x ys → Earlier)
    → IsAmong x (with_statement o ys) → (o ≡ Some x) ⊎ Earlier
issued_step None x ys Earlier more h = inr (more h)
issued_step (Some y) x ys Earlier more (inl same) = inl (ap Some same)
issued_step (Some y) x ys Earlier more (inr among) = inr (more among)

among_is_issued : (t : List Entry) (x : Statement) → IsAmong x (statements_issued t) → IsIssued x t
among_is_issued [] x h = h
among_is_issued (e ∷ t) x h = issued_step (statement_of e) x (statements_issued t) (IsIssued x t) (among_is_issued t x) h

pub numbered_is_issued : (k : ℕ) (t : List Entry) (x : Statement) → statement_at k (statements_issued t) ≡ Some x → IsIssued x t
numbered_is_issued k t x h = among_is_issued t x (numbered_is_among k (statements_issued t) x h)
