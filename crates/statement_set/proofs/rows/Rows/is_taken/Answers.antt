use Rattle.std.proofs.Common.{◌≡◌, ◌∙◌, ◌<◌, ap, sym, subst, refl, rules, List, ℕ, length, Option, Some, Bor}
use Rattle.std.specs.List.{slice_get}
use Rattle.std.specs.Option.{IsSome}
use Rattle.std.proofs.lemmas.Option.{slice_get_read, slice_get_within, same_Some}
use Rattle.statement_set.specs.declared.row.Row.{Row}
use Rattle.statement_set.specs.Rows.{slot_of}
use Rattle.statement_set.proofs.Told.{told_spot}
use Rattle.statement_set.proofs.rows.Rows.is_taken.Goals as goal

pub returns-in-Some : goal.returns-in-Some
returns-in-Some c =
    let lookup = c.in-Some.ensures.lookup in
    let there = subst (λ (rows : List Row). slice_get rows c.index.result.now ≡ Some c.in-Some.row.now) c.deref.ensures.value
    (slice_get_read c.deref.result.now (length c.deref.result.now) c.index.result.now c.in-Some.row.now refl lookup.3.0 lookup.1) in
    let slot = c.slot.ensures ∙ ap (λ (n : ℕ). slot_of c.in-Some.row.now.channel n) (c.len.ensures ∙ c.args.self.now.slots.ok.0) in (
      λ yes.
          let same : c.slot.result ≡ c.args.slot = search rules in
          (c.index.result.now, c.in-Some.row.now, there, sym slot ∙ same),
      λ taken.
          let spot = told_spot c.args.self.now c.requires.filed taken.1.channel c.args.slot c.index.result.now taken.0 taken.1
          (sym taken.3) c.index.ensures taken.2 refl in
          let row = same_Some taken.1 c.in-Some.row.now
          (sym taken.2 ∙ ap (λ (i : ℕ). slice_get c.args.self.now.rows.items i) (sym spot) ∙ there) in
          let same : c.slot.result ≡ c.args.slot =
          slot ∙ ap (λ (w : Row). slot_of w.channel (length c.args.self.now.slots.items)) (sym row) ∙ taken.3 in
          search rules,
    )

pub returns-in-None : goal.returns-in-None
returns-in-None c = (
  λ no. cc,
  λ taken.
      let spot = told_spot c.args.self.now c.requires.filed taken.1.channel c.args.slot c.index.result.now taken.0 taken.1
      (sym taken.3) c.index.ensures taken.2 refl in
      let some = c.get.ensures.lookup.2
      (subst (λ (rows : List Row). c.index.result.now < length rows) (sym c.deref.ensures.value)
      (subst (λ (i : ℕ). i < length c.args.self.now.rows.items) (sym spot)
      (slice_get_within c.args.self.now.rows.items taken.0 taken.1 taken.2))) in
      let found = subst (λ (o : Option (Bor Row)). IsSome o) c.in-None.is some in
      cc,
)
