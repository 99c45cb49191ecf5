use Rattle.std.proofs.Common.{◌≡◌, ◌≤◌, ℕ, ◌+◌, true, ap, ◌∙◌, arith, take, get_or, refl, subst, sym}
use Rattle.std.specs.Prelude.{is_ok}
use Rattle.kept_records.specs.declared.total.Total.{Total}
use Rattle.field_bounds.specs.Owed.{max_total}
use Rattle.gift_ledger.specs.Ledger.{IsSlot, LedgerValue, with_total}
use Rattle.log_replay.specs.Resuming.{NotesGifts}
use Rattle.log_replay.proofs.FromSummary.{no_total, each_at, gifts_more}
use Rattle.log_replay.proofs.Once.{none_given}
use Rattle.log_replay.proofs.StandingLaws.{ok_gives, no_err}
use Rattle.log_replay.proofs.standing.note_gifts.Goals as goal

pub give-requires : goal.give-requires
give-requires c =
    let old = c.args.ledger.now in
    let ts = c.args.gifts.now in
    let i = c.loop-told.told-index in
    let t : Total = get_or ts i no_total in
    let was : IsSlot old t.site.0 t.field.0 = each_at
    (λ (t : Total). IsSlot old t.site.0 t.field.0) ts i no_total c.loop-told-test.true c.requires.places in
    let here : IsSlot c.loop-told.ledger t.site.0 t.field.0 = c.loop-told.invariant.place t.site.0 t.field.0 was in
    record { place = here }

pub prove-unreachable-requires : goal.prove-unreachable-requires
prove-unreachable-requires c =
    let old = c.args.ledger.now in
    let now = c.loop-told.ledger in
    let ts = c.args.gifts.now in
    let i = c.loop-told.told-index in
    let t : Total = get_or ts i no_total in
    let below = c.loop-told-test.true in
    let none = none_given old now ts i below c.requires.rises t refl c.requires.nothing c.loop-told.invariant in
    let small : t.total ≤ max_total = each_at (λ (t : Total). t.total ≤ max_total) ts i no_total below c.requires.small in
    let gave : is_ok c.give.result ≡ true = no_err c.give.result
    (λ full. absurd (omega (arith, c.give.ensures.full.0 full, none, small))) in
    cc (c.is_ok-given.ensures.value, gave, c.if-prove.true)

pub loop-told-preserved : goal.loop-told-preserved
loop-told-preserved c =
    let old = c.args.ledger.now in
    let now = c.loop-told.ledger in
    let ts = c.args.gifts.now in
    let i = c.loop-told.told-index in
    let t : Total = get_or ts i no_total in
    let below = c.loop-told-test.true in
    let was : IsSlot old t.site.0 t.field.0 = each_at (λ (t : Total). IsSlot old t.site.0 t.field.0) ts i no_total below c.requires.places in
    let here : IsSlot now t.site.0 t.field.0 = c.loop-told.invariant.place t.site.0 t.field.0 was in
    let none = none_given old now ts i below c.requires.rises t refl c.requires.nothing c.loop-told.invariant in
    let gave : is_ok c.give.result ≡ true = sym c.is_ok-given.ensures.value ∙ c.if-prove.false in
    let made = ok_gives c.give.result gave c.give.ensures.ok
    ∙ ap (λ (n : ℕ). with_total now t.site.0 t.field.0 t.kind n) (omega (arith, none)) in
    subst (λ (x : LedgerValue). NotesGifts old (take (i + 1) ts) x) (sym made)
    (gifts_more old now ts i below c.loop-told.invariant t refl here)
