use Rattle.std.proofs.Common.{◌∙◌, max, true, refl, sym, arith}
use Rattle.kept_records.specs.declared.record.Record.TheVariants.{Accept}
use Rattle.site_rights.specs.Rights.{at_field, after_add}
use Rattle.gift_ledger.specs.Ledger.{accepted_at, with_accepted}
use Rattle.log_replay.proofs.StandingLaws.{is_other, accept_none, accept_taken, takes_as}
use Rattle.log_replay.proofs.standing.Standing.accept.Goals as goal
use Rattle.log_replay.proofs.standing.Standing.accept.Goals.{then-total-before-via-then-total-before, then-total-before-via-else-total-before+then-total-before-2}

pub accepted-before-requires : goal.accepted-before-requires
accepted-before-requires c =
    let here = sym c.has_place.ensures ∙ c.if-not-has_place.false in
    record {
      place = c.requires.places.place c.args.from.0 c.args.field.0
          (is_other c.args.schema.now c.args.self.now.ledger.site c.args.from.0 c.args.field.0 here);
    }

pub accept-gain-requires : goal.accept-gain-requires
accept-gain-requires c =
    let here = sym c.has_place.ensures ∙ c.if-not-has_place.false in
    record {
      place = c.requires.places.place c.args.from.0 c.args.field.0
          (is_other c.args.schema.now c.args.self.now.ledger.site c.args.from.0 c.args.field.0 here);
    }

pub returns-then-total-before : goal.returns-then-total-before
returns-then-total-before c =
    let before = c.accepted-before.ensures.value in
    record {
      takes_in = accept_none c.args.schema.now c.args.self.now c.args.from c.args.field c.args.kind c.args.total _
          (elim c.then-total-before.branch [
            | then-total-before-via-then-total-before w ↦ λ more within. absurd (omega (arith, before, more, w.if-total-before.true))
            | then-total-before-via-else-total-before+then-total-before-2 w ↦ λ more within.
                absurd (omega (arith, before, within, w.room.ensures.value, w.if-total-before-2.true))
          ]);
    }

pub returns : goal.returns
returns c =
    let schema = c.args.schema.now in
    let old = c.args.self.now in
    let from = c.args.from in
    let field = c.args.field in
    let kind = c.args.kind in
    let total = c.args.total in
    let gain = c.accept-gain.result in
    let here = sym c.has_place.ensures ∙ c.if-not-has_place.false in
    let before = c.accepted-before.ensures.value in
    let is = c.accept-gain.ensures.gain in
    record {
      takes_in = takes_as schema old (Accept from field kind total) true c.add.new.self (at_field after_add old.rights field.0 kind gain)
          c.accept-gain.new.self (with_accepted old.ledger from.0 field.0 kind (max total (accepted_at old.ledger from.0 field.0 kind)))
          old.epoch
          refl c.add.ensures.added c.accept-gain.ensures.accepted
          (accept_taken schema old from field kind total gain c.requires.places here (omega (arith, before, c.if-total-before.false)) is
          (omega (arith, before, is, c.room.ensures.value, c.if-total-before-2.false)));
    }
