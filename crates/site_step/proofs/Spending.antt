-- Held rights that turn at once are what they are when they were given back, taken anew and turned.
use Rattle.std.proofs.Common.{◌≡◌, ℕ, ◌<◌, true, List, length, refl, sym, ap, ◌∙◌, arith}
use Rattle.std.proofs.lemmas.List.{ext_get_or}
use Rattle.std.proofs.lemmas.List.Elements.{All-weaker}
use Rattle.field_bounds.specs.declared.id.TxnId.{TxnId}
use Rattle.field_bounds.specs.declared.kind.Kind.{Kind}
use Rattle.field_bounds.specs.declared.kind.Kind.TheVariants.{Lower, Raise}
use Rattle.field_bounds.specs.declared.entry.Escrow.{Escrow}
use Rattle.field_bounds.specs.Schema.{SchemaValue}
use Rattle.site_rights.specs.declared.field_rights.Amounts.{Amounts}
use Rattle.site_rights.specs.declared.field_rights.FieldRights.{FieldRights}
use Rattle.site_rights.specs.declared.field_rights.Outcome.TheVariants.{Committed, Aborted}
use Rattle.site_rights.specs.Rights.{amounts_of, no_rights, ending, after_take, by_escrows, AreInRange, AreHeld}
use Rattle.site_rights.proofs.RightsLaws.{length-by_escrows, free_at-by_escrows, held_at-by_escrows, taken_keeps_cut, ending_keeps_cut, cut_at-by_escrows, taken_keeps, ending_keeps, width_at-by_escrows}
use Rattle.escrow_journal.specs.Journal.{escrows_at}
use Rattle.kept_records.specs.declared.record.Record.TheVariants as records
use Rattle.log_replay.specs.Standing.{TakesIn}
use Rattle.log_replay.proofs.StandingLaws.{free_taken, held_taken, takes_as, commit_taken}
use Rattle.site_step.specs.declared.accounts.SiteAccounts.{SiteAccounts}
use Rattle.site_step.specs.State.{CanCarry, after_release, after_spending}

same_amounts : (x y : Amounts) → x.free ≡ y.free → x.held ≡ y.held → x.cut ≡ y.cut → x ≡ y
same_amounts x y f h c =
    ap (λ (n : ℕ). record { free = n; held = x.held; cut = x.cut }) f
    ∙ ap (λ (n : ℕ). record { free = y.free; held = n; cut = x.cut }) h
    ∙ ap (λ (n : ℕ). record { free = y.free; held = y.held; cut = n }) c

same_row : (x y : FieldRights) → x.width ≡ y.width → ((k : Kind) → (amounts_of x k).free ≡ (amounts_of y k).free)
    → ((k : Kind) → (amounts_of x k).held ≡ (amounts_of y k).held) → ((k : Kind) → (amounts_of x k).cut ≡ (amounts_of y k).cut) → x ≡ y
same_row x y w f h c =
    ap (λ (n : ℕ). record { width = n; lower = x.lower; raise = x.raise }) w
    ∙ ap (λ (b : Amounts). record { width = y.width; lower = b; raise = x.raise })
    (same_amounts x.lower y.lower (f Lower) (h Lower) (c Lower))
    ∙ ap (λ (b : Amounts). record { width = y.width; lower = y.lower; raise = b })
    (same_amounts x.raise y.raise (f Raise) (h Raise) (c Raise))

-- what escrows held, once it was given back, is taken anew
pub taken_again : (rows : List FieldRights) (es : List Escrow) → AreInRange rows es → AreHeld rows es
    → by_escrows after_take (by_escrows (ending Aborted) rows es) es ≡ rows
taken_again rows es range held =
    let back = by_escrows (ending Aborted) rows es in
    let again = by_escrows after_take back es in
    let as_long : length back ≡ length rows = length-by_escrows (ending Aborted) rows es in
    let same : length again ≡ length rows = length-by_escrows after_take back es ∙ as_long in
    let there : AreInRange back es = All-weaker (λ (e : Escrow). e.field.0 < length rows) (λ (e : Escrow). e.field.0 < length back)
    (λ e lt. omega arith) es range in
    ext_get_or no_rights again rows same (λ f l. same_row _ _
    (width_at-by_escrows after_take taken_keeps back es there f
    ∙ width_at-by_escrows (ending Aborted) (ending_keeps Aborted) rows es range f)
    (λ k. omega (arith, free_taken back es there f k, free_at-by_escrows Aborted rows es range f k))
    (λ k. omega (
      arith,
      held_taken back es there f k,
      held_at-by_escrows Aborted rows es range held f k (omega (arith, l, same)),
    ))
    (λ k. cut_at-by_escrows after_take taken_keeps_cut back es there f k
    ∙ cut_at-by_escrows (ending Aborted) (ending_keeps_cut Aborted) rows es range f k))

-- so a commit is taken in
pub spends : (schema : SchemaValue) (a : SiteAccounts) (txn : TxnId) → CanCarry schema a (records.Commit txn (escrows_at txn a.journal))
    → TakesIn schema (after_release txn a).standing (records.Commit txn (escrows_at txn a.journal)) true (after_spending txn a).standing
spends schema a txn can =
    let es = escrows_at txn a.journal in
    let old = (after_release txn a).standing in
    takes_as schema old (records.Commit txn es) true (by_escrows (ending Committed) a.standing.rights es)
    (by_escrows (ending Committed) (by_escrows after_take old.rights es) es) old.ledger old.ledger old.epoch refl
    (ap (λ (x : List FieldRights). by_escrows (ending Committed) x es)
    (sym (taken_again a.standing.rights es can.ready.in_range can.ready.are_held)))
    refl
    (commit_taken schema old txn es can.places can.takes_.0 can.takes_.1 can.takes_.2)
