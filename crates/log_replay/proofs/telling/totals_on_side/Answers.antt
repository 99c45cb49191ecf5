use Rattle.std.proofs.Common.{◌≡◌, ◌∙◌, ap, sym, ◌++◌, ℕ, length, arith}
use Rattle.kept_records.specs.Summary.{totals_of, totals_of_site}
use Rattle.log_replay.specs.Telling.{side_with}
use Rattle.log_replay.proofs.Told.{sites_none, sites_more, sites_same}
use Rattle.log_replay.proofs.telling.totals_on_side.Goals as goal
use Rattle.log_replay.proofs.telling.totals_on_side.Goals.{then-number-own+in_ok-push_any_site, else-number-own}

pub loop-number-init : goal.loop-number-init
loop-number-init c = c.new-totals.ensures.items ∙ sym
    (sites_none (side_with c.args.anew c.args.given c.args.ledger.now) c.args.ledger.now.site (length c.args.schema.now.fields))

pub push_any_site-requires : goal.push_any_site-requires
push_any_site-requires c =
    record {
      places = λ f below.
          c.requires.places c.loop-number.number f (omega (arith, c.sites-number-end.ensures.value, c.loop-number-test.true))
          (λ same. c.if-number-own.true (same ∙ sym c.site-own.ensures.value))
          (omega (arith, below, c.fields.ensures.value));
    }

pub loop-number-preserved : goal.loop-number-preserved
loop-number-preserved c =
    let F = side_with c.args.anew c.args.given c.args.ledger.now in
    let s = c.args.ledger.now.site in
    let m = length c.args.schema.now.fields in
    let n = c.loop-number.number in
    let was : c.loop-number.totals.items ≡ totals_of F s m n = c.loop-number.invariant in
    elim c.if-number-own.branch [
      | then-number-own+in_ok-push_any_site w ↦
          let added : w.push_any_site.new.totals.items ≡ c.loop-number.totals.items ++ totals_of_site F n m =
          w.in_ok-push_any_site.ensures ∙ ap (λ (x : ℕ). c.loop-number.totals.items ++ totals_of_site F n x) w.fields.ensures.value in
          let is : c.if-number-own.totals.items ≡ w.push_any_site.new.totals.items = ap (λ v. v.items) w.totals-is in
          sites_more F s m n c.loop-number.totals.items c.if-number-own.totals.items was
          (λ same. w.if-number-own.true (same ∙ sym c.site-own.ensures.value)) (is ∙ added)
      | else-number-own w ↦
          let is : c.if-number-own.totals.items ≡ c.loop-number.totals.items = ap (λ v. v.items) w.totals-is in
          is ∙ sites_same F s m n c.loop-number.totals.items was (w.if-number-own.false ∙ c.site-own.ensures.value)
    ]
