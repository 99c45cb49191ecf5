use Rattle.std.proofs.Common.{◌≡◌, ◌∙◌, ◌<◌, ap, sym, subst, rules, List, ℕ, length, Option, Some, Bor, refl}
use Rattle.std.specs.Option.{IsSome}
use Rattle.std.proofs.lemmas.Option.{slice_get_read, slice_get_within, same_Some}
use Rattle.std.specs.List.{slice_get}
use Rattle.statement_set.specs.declared.row.Row.{Row}
use Rattle.statement_set.specs.Rows.{slot_of}
use Rattle.statement_set.proofs.Told.{filed_none, told_spot}
use Rattle.statement_set.proofs.rows.Rows.row_of.Goals as goal

pub returns-then-is_empty-clause-none : goal.returns-then-is_empty-clause-none
returns-then-is_empty-clause-none c r row at its = filed_none c.args.self.now c.requires.filed (search rules) r row at

pub returns-in-Some-clause-found : goal.returns-in-Some-clause-found
returns-in-Some-clause-found c =
    let lookup = c.in-Some.ensures.lookup in
    let there = subst (λ (rows : List Row). slice_get rows c.index.result.now ≡ Some c.in-Some.row.now) c.deref.ensures.value
    (slice_get_read c.deref.result.now (length c.deref.result.now) c.index.result.now c.in-Some.row.now refl lookup.3.0 lookup.1) in
    (c.in-Some.row.now, there, c.is.ensures.0 c.if-is.true)

pub returns-in_default-clause-none : goal.returns-in_default-clause-none
returns-in_default-clause-none c r row at its =
    let spot = told_spot c.args.self.now c.requires.filed c.args.channel c.slot.result c.index.result.now r row
    (c.slot.ensures ∙ ap (λ (n : ℕ). slot_of c.args.channel n) (c.len.ensures ∙ c.args.self.now.slots.ok.0)) c.index.ensures at its in
    let lookup = c.in-Some.ensures.lookup in
    let there = subst (λ (rows : List Row). slice_get rows c.index.result.now ≡ Some c.in-Some.row.now) c.deref.ensures.value
    (slice_get_read c.deref.result.now (length c.deref.result.now) c.index.result.now c.in-Some.row.now refl lookup.3.0 lookup.1) in
    let same = same_Some row c.in-Some.row.now
    (sym at ∙ ap (λ (i : ℕ). slice_get c.args.self.now.rows.items i) (sym spot) ∙ there) in
    let yes = c.is.ensures.1 (ap (λ (w : Row). w.channel) (sym same) ∙ its) in
    cc

pub returns-in_default-2-clause-none : goal.returns-in_default-2-clause-none
returns-in_default-2-clause-none c r row at its =
    let spot = told_spot c.args.self.now c.requires.filed c.args.channel c.slot.result c.index.result.now r row
    (c.slot.ensures ∙ ap (λ (n : ℕ). slot_of c.args.channel n) (c.len.ensures ∙ c.args.self.now.slots.ok.0)) c.index.ensures at its in
    let within = slice_get_within c.args.self.now.rows.items r row at in
    let some = c.get.ensures.lookup.2
    (subst (λ (rows : List Row). c.index.result.now < length rows) (sym c.deref.ensures.value)
    (subst (λ (i : ℕ). i < length c.args.self.now.rows.items) (sym spot) within)) in
    let found = subst (λ (o : Option (Bor Row)). IsSome o) c.in_default.is some in
    cc
