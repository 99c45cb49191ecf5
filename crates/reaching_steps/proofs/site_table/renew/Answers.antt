use Rattle.std.proofs.Common.{◌≡◌, ◌<◌, ◌≤◌, ◌∙◌, ℕ, sym, ap, subst, length, get_or, slice_set, arith}
use Rattle.field_bounds.proofs.Conserved.{lawful_at}
use Rattle.world_steps.specs.View.{trace_of}
use Rattle.world_steps.specs.declared.step.StepReply.TheVariants.{Made}
use Rattle.reaching_steps.specs.declared.standing.FieldHoldings.{FieldHoldings}
use Rattle.reaching_steps.specs.Told.{Puts, Renews}
use Rattle.reaching_steps.proofs.Growing.{on_ok}
use Rattle.reaching_steps.proofs.Table.{renews_none, renews_made, renews_past}
use Rattle.reaching_steps.proofs.OnePass.{renews_put}
use Rattle.reaching_steps.proofs.site_table.renew.Goals as goal

pub returns-in-NoStatement : goal.returns-in-NoStatement
returns-in-NoStatement c = record { renewed = rw c.in-NoStatement.is (renews_none c.args.world.now c.args.field.0 c.args.table.now.items) }

pub returns-then-place-len : goal.returns-then-place-len
returns-then-place-len c =
    let within = rw c.in-Made.is at c.requires.made in
    let past : length c.args.table.now.items ≤ c.in-Made.entry.site.0 =
    omega (arith, c.if-place-len.true, c.from-place.ensures, c.len.ensures) in
    record { renewed = rw c.in-Made.is (renews_past c.args.world.now c.args.field.0 c.in-Made.entry c.args.table.now.items past within) }

pub returns-then-ends_doubt : goal.returns-then-ends_doubt
returns-then-ends_doubt c =
    record {
      renewed = rw c.in-Made.is (renews_made c.args.world.now c.args.field.0 c.in-Made.entry c.args.table.now.items _
          c.in_ok-table-in-Made.field-0 c.in_ok-table-in-Made.ensures.value
          (ap (λ (n : ℕ). slice_set c.args.table.now.items n c.in_ok-table-in-Made.field-0) c.from-place.ensures));
    }

pub returns-else-ends_doubt : goal.returns-else-ends_doubt
returns-else-ends_doubt c =
    let w = c.args.world.now in
    let f = c.args.field.0 in
    let rows = c.args.table.now.items in
    let e = c.in-Made.entry in
    let next = c.put_next.new.standing in
    let was = c.index_mut-in-Made.result.now in
    let at = c.from-place.ensures in
    let within : e.site.0 < w.schema.sites = rw c.in-Made.is at c.requires.made in
    let inside : e.site.0 < length rows = omega (arith, c.if-place-len.false, at, c.len.ensures) in
    let found : was ≡ get_or rows e.site.0 was = c.index_mut-in-Made.ensures.value ∙ ap (λ (n : ℕ). get_or rows n was) at in
    let lawful = lawful_at w.schema c.schema-schema.ensures.limits (trace_of w) c.trace-trace.ensures.sound e.site.0 within in
    let made = on_ok c.put_next.result (Puts f was e next) (Renews w f (Made e) rows (slice_set rows c.from-place.result next))
    (λ put. renews_put w f e rows (slice_set rows c.from-place.result next) next was inside
    (sym c.ends_doubt.ensures.value ∙ c.if-ends_doubt.false) lawful
    (subst (λ (x : FieldHoldings). Puts f x e next) found put)
    (ap (λ (n : ℕ). slice_set rows n next) at))
    c.put_next.ensures.put in
    record { renewed = rw c.in-Made.is made }
