use Rattle.std.proofs.Common.{◌≡◌, ◌∙◌, ap, sym, ◌++◌, ℕ, length}
use Rattle.std.proofs.lemmas.Bool.{eqb-true}
use Rattle.field_bounds.specs.declared.kind.Kind.{Kind}
use Rattle.field_bounds.specs.declared.kind.Kind.TheVariants.{Lower, Raise}
use Rattle.field_bounds.specs.declared.id.FieldNo.{FieldNo}
use Rattle.kept_records.specs.Summary.{one_total}
use Rattle.log_replay.specs.Telling.{side, side_in, told_if}
use Rattle.log_replay.proofs.Told.{site_none, site_more, side_by_accounts, site_without_accounts}
use Rattle.log_replay.proofs.telling.push_site.Goals as goal

pub returns-then-is_empty : goal.returns-then-is_empty
returns-then-is_empty c =
    let accounts = c.accounts-accounts.result.now in
    site_without_accounts c.args.given c.args.ledger.now accounts c.args.site.0 c.args.fields c.args.totals.now.items
    c.accounts-accounts.ensures.value (eqb-true (length accounts) 0 (sym c.is_empty.ensures ∙ c.if-is_empty.true))

pub loop-number-init : goal.loop-number-init
loop-number-init c = site_none (side c.args.given c.args.ledger.now) c.args.site.0 c.args.totals.now.items

pub loop-number-preserved : goal.loop-number-preserved
loop-number-preserved c =
    let F = side c.args.given c.args.ledger.now in
    let r = c.args.site.0 in
    let m = c.loop-number.number in
    let field : FieldNo = record { 0 = m } in
    let accounts = c.accounts-accounts.result.now in
    let of_kind : (k : Kind) → side_in c.args.given accounts m k ≡ F r m k =
    λ k. side_by_accounts c.args.given c.args.ledger.now accounts r m k (c.accounts-accounts.ensures.value m k) in
    let low : c.push_total.new.totals.items ≡ c.loop-number.totals.items ++ one_total F r m Lower =
    c.in_ok-push_total.ensures ∙ ap (λ (n : ℕ). c.loop-number.totals.items
    ++ told_if c.args.site field Lower n)
    (c.total_in-lower.ensures.value ∙ of_kind Lower) in
    let high : c.push_total-in-loop-number.new.totals.items ≡ c.push_total.new.totals.items ++ one_total F r m Raise =
    c.in_ok-push_total-2.ensures ∙ ap (λ (n : ℕ). c.push_total.new.totals.items
    ++ told_if c.args.site field Raise n)
    (c.total_in-raise.ensures.value ∙ of_kind Raise) in
    site_more F r m c.args.totals.now.items c.loop-number.totals.items c.push_total.new.totals.items
    c.push_total-in-loop-number.new.totals.items c.loop-number.invariant low high
