use Rattle.std.proofs.Common.{◌≡◌, ◌∙◌, ◌+◌, ◌-◌, true, sym, ap, arith}
use Rattle.std.specs.Prelude.{is_ok}
use Rattle.kept_records.specs.declared.record.Record.TheVariants.{Gift}
use Rattle.site_rights.specs.Rights.{at_field, after_drop}
use Rattle.gift_ledger.specs.Ledger.{total_at, with_total}
use Rattle.log_replay.proofs.StandingLaws.{is_other, gift_taken, takes_as, ok_gives, no_err}
use Rattle.log_replay.proofs.standing.Standing.give.Goals as goal

pub total-before-requires : goal.total-before-requires
total-before-requires c =
    let here = sym c.has_place.ensures ∙ c.if-not-has_place.false in
    record {
      place = c.requires.places.place c.args.to.0 c.args.field.0
          (is_other c.args.schema.now c.args.self.now.ledger.site c.args.to.0 c.args.field.0 here);
    }

pub give-requires : goal.give-requires
give-requires c =
    let here = sym c.has_place.ensures ∙ c.if-not-has_place.false in
    record {
      place = c.requires.places.place c.args.to.0 c.args.field.0
          (is_other c.args.schema.now c.args.self.now.ledger.site c.args.to.0 c.args.field.0 here);
    }

pub drop_free-requires-clause-there : goal.drop_free-requires-clause-there
drop_free-requires-clause-there c = omega (arith, c.free.ensures.value, c.if-free-amount.false)

pub returns : goal.returns
returns c =
    let schema = c.args.schema.now in
    let old = c.args.self.now in
    let to = c.args.to in
    let field = c.args.field in
    let kind = c.args.kind in
    let total = c.args.total in
    let amount = total - c.total-before.result in
    let here = sym c.has_place.ensures ∙ c.if-not-has_place.false in
    let before = c.total-before.ensures.value in
    let is : amount ≡ total - total_at old.ledger to.0 field.0 kind = ap (λ n. total - n) before in
    let gave : is_ok c.give.result ≡ true = no_err c.give.result
    (λ full. absurd (omega (arith, c.give.ensures.full.0 full, before, c.if-total-before.false, c.requires.small))) in
    record {
      takes_in = takes_as schema old (Gift to field kind total) c.is_ok.result c.drop_free.new.self
          (at_field after_drop old.rights field.0 kind amount)
          c.give.new.self (with_total old.ledger to.0 field.0 kind (total_at old.ledger to.0 field.0 kind + amount)) old.epoch
          (c.is_ok.ensures.value ∙ gave) c.drop_free.ensures.dropped (ok_gives c.give.result gave c.give.ensures.ok)
          (gift_taken schema old to field kind total amount c.requires.places here (omega (arith, before, c.if-total-before.false)) is
          (omega (arith, c.free.ensures.value, c.if-free-amount.false)));
    }
