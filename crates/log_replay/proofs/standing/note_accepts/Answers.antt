use Rattle.std.proofs.Common.{◌+◌, ◌∙◌, ℕ, ap, take, get_or, refl, subst, sym}
use Rattle.kept_records.specs.declared.total.Total.{Total}
use Rattle.gift_ledger.specs.Ledger.{IsSlot, LedgerValue, with_accepted}
use Rattle.log_replay.specs.Resuming.{NotesAccepts}
use Rattle.log_replay.proofs.FromSummary.{no_total, each_at, accepts_more}
use Rattle.log_replay.proofs.Once.{none_accepted}
use Rattle.log_replay.proofs.standing.note_accepts.Goals as goal

pub accept-gain-requires : goal.accept-gain-requires
accept-gain-requires c =
    let old = c.args.ledger.now in
    let ts = c.args.accepts.now in
    let i = c.loop-told.told-index in
    let t : Total = get_or ts i no_total in
    let was : IsSlot old t.site.0 t.field.0 = each_at
    (λ (t : Total). IsSlot old t.site.0 t.field.0) ts i no_total c.loop-told-test.true c.requires.places in
    let here : IsSlot c.loop-told.ledger t.site.0 t.field.0 = c.loop-told.invariant.place t.site.0 t.field.0 was in
    record { place = here }

pub loop-told-preserved : goal.loop-told-preserved
loop-told-preserved c =
    let old = c.args.ledger.now in
    let now = c.loop-told.ledger in
    let ts = c.args.accepts.now in
    let i = c.loop-told.told-index in
    let t : Total = get_or ts i no_total in
    let below = c.loop-told-test.true in
    let was : IsSlot old t.site.0 t.field.0 = each_at (λ (t : Total). IsSlot old t.site.0 t.field.0) ts i no_total below c.requires.places in
    let here : IsSlot now t.site.0 t.field.0 = c.loop-told.invariant.place t.site.0 t.field.0 was in
    let made = c.accept-gain.ensures.accepted
    ∙ ap (λ (n : ℕ). with_accepted now t.site.0 t.field.0 t.kind n)
    (none_accepted old now ts i below c.requires.rises t refl c.requires.nothing c.loop-told.invariant) in
    subst (λ (x : LedgerValue). NotesAccepts old (take (i + 1) ts) x) (sym made)
    (accepts_more old now ts i below c.loop-told.invariant t refl here)
