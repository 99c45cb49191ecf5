use Rattle.std.proofs.Common.{◌∙◌, List, true, refl, sym, ap, subst}
use Rattle.kept_records.specs.declared.record.Record.TheVariants.{Commit}
use Rattle.site_rights.specs.declared.field_rights.FieldRights.{FieldRights}
use Rattle.site_rights.specs.declared.field_rights.Outcome.TheVariants.{Committed}
use Rattle.site_rights.specs.Rights.{by_escrows, after_take, ending, AreInRange, AreHeld}
use Rattle.log_replay.proofs.StandingLaws.{commit_none, commit_taken, takes_as, fields_in_range, taken_range, taken_held}
use Rattle.log_replay.proofs.standing.Standing.commit_all.Goals as goal
use Rattle.log_replay.proofs.standing.Standing.commit_all.Goals.{then-txn-self-via-then-txn-self, then-txn-self-via-else-txn-self+then-not-are_fields}

pub returns-then-txn-self : goal.returns-then-txn-self
returns-then-txn-self c =
    record {
      takes_in = commit_none c.args.schema.now c.args.self.now c.args.txn c.args.escrows.now c.args.self.now
          (elim c.then-txn-self.branch [
            | then-txn-self-via-then-txn-self w ↦ λ same fields free. absurd (w.if-txn-self.true same)
            | then-txn-self-via-else-txn-self+then-not-are_fields w ↦ λ same fields free.
                absurd (cc (fields, w.are_fields.ensures, w.if-not-are_fields.true))
          ]);
    }

pub returns-then-not-take_all : goal.returns-then-not-take_all
returns-then-not-take_all c =
    record {
      takes_in = commit_none c.args.schema.now c.args.self.now c.args.txn c.args.escrows.now _
          (λ same fields free. absurd (cc (c.take_all.ensures.enough.1 free, c.if-not-take_all.true)));
    }

pub end-requires-clause-in_schema : goal.end-requires-clause-in_schema
end-requires-clause-in_schema c =
    let es = c.args.escrows.now in
    let rows = c.args.self.now.rights in
    let range = fields_in_range c.args.schema.now rows es c.requires.places.count (sym c.are_fields.ensures ∙ c.if-not-are_fields.false) in
    subst (λ (x : List FieldRights). AreInRange x es) (sym (c.take_all.ensures.taken c.if-not-take_all.false)) (taken_range rows es range)

pub end-requires-clause-there : goal.end-requires-clause-there
end-requires-clause-there c =
    let es = c.args.escrows.now in
    let rows = c.args.self.now.rights in
    let range = fields_in_range c.args.schema.now rows es c.requires.places.count (sym c.are_fields.ensures ∙ c.if-not-are_fields.false) in
    subst (λ (x : List FieldRights). AreHeld x es) (sym (c.take_all.ensures.taken c.if-not-take_all.false)) (taken_held rows es range)

pub returns : goal.returns
returns c =
    let schema = c.args.schema.now in
    let old = c.args.self.now in
    let es = c.args.escrows.now in
    let fields = sym c.are_fields.ensures ∙ c.if-not-are_fields.false in
    let mid = c.take_all.ensures.taken c.if-not-take_all.false in
    record {
      takes_in = takes_as schema old (Commit c.args.txn es) true c.end.new.self
          (by_escrows (ending Committed) (by_escrows after_take old.rights es) es) old.ledger old.ledger old.epoch
          refl (c.end.ensures.ended ∙ ap (λ (x : List FieldRights). by_escrows (ending Committed) x es) mid) refl
          (commit_taken schema old c.args.txn es c.requires.places c.if-txn-self.false fields
          (c.take_all.ensures.enough.0 c.if-not-take_all.false));
    }
