use Rattle.std.proofs.Common.{Bool, ◌+◌, ◌-◌, ℕ, List, length, sym, ap, subst, arith}
use Rattle.std.proofs.lemmas.Result.{IfOk-weaker}
use Rattle.field_bounds.specs.declared.entry.Escrow.{Escrow}
use Rattle.kept_records.specs.Lent.{record_told}
use Rattle.kept_records.proofs.Cursors.{fewer}
use Rattle.kept_records.proofs.Walks.{at_line, end_at_line}
use Rattle.log_replay.specs.Standing.{TakesIn}
use Rattle.log_replay.specs.LogBytes.{TakenIn, TellsBehind}
use Rattle.log_replay.proofs.StandingLaws.{has_places}
use Rattle.log_replay.proofs.LogBytes.{taken_more, broken_tells, end_tells}
use Rattle.log_replay.proofs.log_bytes.replay_log.Goals as goal

pub take_common-requires-clause-places : goal.take_common-requires-clause-places
take_common-requires-clause-places c =
    let now = c.loop-of-by_line.standing in
    let taken = c.loop-of-by_line.invariant.taken in
    has_places c.args.schema.now c.args.site.0 taken.records now.rights now.ledger now.epoch taken.stands.for_

pub returns-then-not-take_common : goal.returns-then-not-take_common
returns-then-not-take_common c =
    let schema = c.args.schema.now in
    let lent = c.next_common.new.self in
    let new = c.take_common.new.self in
    let takes = subst (λ (es : List Escrow). TakesIn schema c.loop-of-by_line.standing (record_told c.in-Some.next es) c.take_common.result new)
    c.escrows.ensures.all c.take_common.ensures.takes_in in
    record {
      tells = IfOk-weaker c.behind_broken.result _ _
          (λ replayed told. broken_tells schema c.args.site.0 c.args.bytes.now c.loop-of-by_line.standing c.loop-of-by_line.number c.loop-of-by_line.lines.left
          c.loop-of-by_line.invariant.taken (record_told c.in-Some.next lent.escrows) lent.left new replayed c.in-Some.ensures.handed
          (subst (λ (b : Bool). TakesIn schema c.loop-of-by_line.standing (record_told c.in-Some.next lent.escrows) b new) c.if-not-take_common.true
          takes) told)
          c.behind_broken.ensures.tells;
    }

pub loop-of-by_line-preserved-in-Some : goal.loop-of-by_line-preserved-in-Some
loop-of-by_line-preserved-in-Some c =
    let schema = c.args.schema.now in
    let lent = c.next_common.new.self in
    let new = c.take_common.new.self in
    let takes = subst (λ (es : List Escrow). TakesIn schema c.loop-of-by_line.standing (record_told c.in-Some.next es) c.take_common.result new)
    c.escrows.ensures.all c.take_common.ensures.takes_in in
    record {
      few = omega (arith, c.loop-of-by_line.invariant.few, c.in-Some.ensures.shorter);
      taken = taken_more schema c.args.site.0 c.args.bytes.now c.loop-of-by_line.standing c.loop-of-by_line.number c.loop-of-by_line.lines.left c.loop-of-by_line.invariant.taken
          (record_told c.in-Some.next lent.escrows) lent.left new c.in-Some.ensures.handed
          (subst (λ (b : Bool). TakesIn schema c.loop-of-by_line.standing (record_told c.in-Some.next lent.escrows) b new) c.if-not-take_common.false
          takes);
    }

pub take_next-requires-clause-places : goal.take_next-requires-clause-places
take_next-requires-clause-places c =
    let now = c.loop-of-by_line.standing in
    let taken = c.loop-of-by_line.invariant.taken in
    has_places c.args.schema.now c.args.site.0 taken.records now.rights now.ledger now.epoch taken.stands.for_

pub returns-then-not-may : goal.returns-then-not-may
returns-then-not-may c =
    let schema = c.args.schema.now in
    let left = c.loop-of-by_line.lines.left in
    let new = c.next_line.new.self.left in
    let after = c.take_next.new.standing in
    let next = c.in-Record.record in
    let at = at_line _ c.in_default.ensures.handed c.in_ok-record.ensures.handed c.in-Record.is in
    record {
      tells = IfOk-weaker c.behind_broken-then-not-may.result _ _
          (λ replayed told. broken_tells schema c.args.site.0 c.args.bytes.now c.loop-of-by_line.standing c.loop-of-by_line.number left c.loop-of-by_line.invariant.taken
          next new after replayed at
          (subst (λ (b : Bool). TakesIn schema c.loop-of-by_line.standing next b after) c.if-not-may.true c.in_ok-may-in-Record.ensures.takes_in)
          (subst (λ (l : List ℕ). TellsBehind (c.loop-of-by_line.number + 1) l replayed) c.give_back.ensures.same told))
          c.behind_broken-then-not-may.ensures.tells;
    }

pub loop-of-by_line-preserved : goal.loop-of-by_line-preserved
loop-of-by_line-preserved c =
    let schema = c.args.schema.now in
    let bytes = c.args.bytes.now in
    let left = c.loop-of-by_line.lines.left in
    let new = c.next_line.new.self.left in
    let after = c.take_next.new.standing in
    let next = c.in-Record.record in
    let at = at_line _ c.in_default.ensures.handed c.in_ok-record.ensures.handed c.in-Record.is in
    let same = c.give_back.ensures.same in
    record {
      few = omega (arith, c.loop-of-by_line.invariant.few, fewer left new next at.parts, ap length same);
      taken = subst (λ (l : List ℕ). TakenIn schema c.args.site.0 bytes after (c.loop-of-by_line.number + 1) l) (sym same)
          (taken_more schema c.args.site.0 bytes c.loop-of-by_line.standing c.loop-of-by_line.number left c.loop-of-by_line.invariant.taken next new after at
          (subst (λ (b : Bool). TakesIn schema c.loop-of-by_line.standing next b after) c.if-not-may.false
          c.in_ok-may-in-Record.ensures.takes_in));
    }

pub returns : goal.returns
returns c =
    let left = c.loop-of-by_line.lines.left in
    let none = end_at_line _ c.in_default.ensures.handed c.in_ok-record.ensures.handed c.in-End.is in
    record {
      tells = end_tells c.args.schema.now c.args.site.0 c.args.bytes.now c.loop-of-by_line.standing c.loop-of-by_line.number left c.loop-of-by_line.invariant.taken
          (length c.args.bytes.now - c.left.result)
          (omega (arith, c.left.ensures.value, ap length none.1)) none.0;
    }
