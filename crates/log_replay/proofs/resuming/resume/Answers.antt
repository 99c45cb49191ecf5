use Rattle.std.proofs.Common.{Bool, ◌≡◌, ◌+◌, ◌++◌, [], ℕ, List, true, length, sym, ap, ◌∙◌, subst, arith}
use Rattle.field_bounds.specs.declared.entry.Escrow.{Escrow}
use Rattle.field_bounds.specs.Schema.{SchemaValue}
use Rattle.kept_records.specs.declared.record.Record.{Record}
use Rattle.kept_records.specs.declared.reading_back.ReadBack.{ReadBack}
use Rattle.kept_records.specs.Text.{IsRecord}
use Rattle.kept_records.specs.Lines.{IsRecordAt}
use Rattle.kept_records.proofs.Cursors.{fewer}
use Rattle.kept_records.specs.Lent.{record_told}
use Rattle.kept_records.proofs.Lines.{no_log}
use Rattle.kept_records.proofs.Walks.{at_line, bad_at_line, end_at_line, begins_none, bad_there}
use Rattle.log_replay.specs.declared.standing.Standing.{Standing}
use Rattle.log_replay.specs.Standing.{TakesIn}
use Rattle.log_replay.specs.Resuming.{IsEnd, up_to, Walks}
use Rattle.log_replay.proofs.StandingLaws.{has_places, after_one}
use Rattle.log_replay.proofs.FromSummary.{walks_start, turn_of, walks_on, walks_end}
use Rattle.log_replay.proofs.resuming.resume.Goals as goal

-- one record more was taken in
stepped : (schema : SchemaValue) (s : ℕ) (all : List Record) (read : ReadBack) (end_ : IsEnd schema s all read) (standing : Standing) (turns : ℕ)
    (bytes : List ℕ) (walks : Walks schema s all read end_ standing turns bytes) (r : Record) (new : List ℕ) (answer : Bool) (after : Standing)
    → IsRecordAt bytes r new → TakesIn schema standing r answer after → answer ≡ true
    → Walks schema s all read end_ after (turns + 1) new
stepped schema s all read end_ standing turns bytes walks r new answer after at takes may =
    let turn = turn_of schema s all read end_ standing turns bytes walks r new at.parts at.fits in
    let stands = after_one schema s (up_to end_.holds.last.before read.summary
    ++ walks.taken) r standing after turn.lawful walks.stands
    (subst (λ (x : Bool). TakesIn schema standing r x after) may takes) in
    walks_on schema s all read end_ standing turns bytes walks r new after at.parts at.fits stands

-- and each is
taken_in : (schema : SchemaValue) (s : ℕ) (all : List Record) (read : ReadBack) (end_ : IsEnd schema s all read) (standing : Standing) (turns : ℕ)
    (bytes : List ℕ) (walks : Walks schema s all read end_ standing turns bytes) (r : Record) (new : List ℕ) (answer : Bool) (after : Standing)
    → IsRecordAt bytes r new → TakesIn schema standing r answer after → answer ≡ true
taken_in schema s all read end_ standing turns bytes walks r new answer after at takes =
    let turn = turn_of schema s all read end_ standing turns bytes walks r new at.parts at.fits in
    takes.answered s (up_to end_.holds.last.before read.summary ++ walks.taken) turn.lawful walks.stands ∙ turn.may

pub loop-of-by_line-init : goal.loop-of-by_line-init
loop-of-by_line-init c = record {
  few = omega (arith, ap length (c.new-records.ensures.all ∙ c.as_slice.ensures.all));
  walks = λ all end_. walks_start c.args.schema.now c.args.site.0 all c.args.end.now end_ c.in_ok-standing.standing c.new-records.result.left
      (c.new-records.ensures.all ∙ c.as_slice.ensures.all) (c.in_ok-standing.ensures.begins all end_);
}

pub overflow_add-turns : goal.overflow_add-turns
overflow_add-turns c = omega (arith, c.loop-of-by_line.invariant.few, c.in-Some.ensures.shorter, c.as_slice.type_inv.0, ap length c.as_slice.ensures.all)

pub take_common-may-requires-clause-places : goal.take_common-may-requires-clause-places
take_common-may-requires-clause-places c =
    let now = c.loop-of-by_line.standing in
    let end_ = c.requires.end_.1 in
    let walks = c.loop-of-by_line.invariant.walks c.requires.end_.0 end_ in
    has_places c.args.schema.now c.args.site.0 (up_to end_.holds.last.before c.args.end.now.summary
    ++ walks.taken) now.rights now.ledger now.epoch walks.stands.for_

pub take_common-may-requires-clause-in_range : goal.take_common-may-requires-clause-in_range
take_common-may-requires-clause-in_range c =
    subst (λ (es : List Escrow). IsRecord (record_told c.in-Some.next es)) (sym c.escrows.ensures.all) c.in-Some.ensures.handed.fits

pub prove-unreachable-requires : goal.prove-unreachable-requires
prove-unreachable-requires c =
    let schema = c.args.schema.now in
    let s = c.args.site.0 in
    let end_ = c.requires.end_.1 in
    let walks = c.loop-of-by_line.invariant.walks c.requires.end_.0 end_ in
    let lent = c.next_common.new.self in
    let takes = subst (λ (es : List Escrow). TakesIn schema c.loop-of-by_line.standing (record_told c.in-Some.next es) c.take_common-may.result
    c.take_common-may.new.self) c.escrows.ensures.all c.take_common-may.ensures.takes_in in
    let may = taken_in schema s c.requires.end_.0 c.args.end.now end_ c.loop-of-by_line.standing c.loop-of-by_line.turns c.loop-of-by_line.records.left walks
    (record_told c.in-Some.next lent.escrows) lent.left c.take_common-may.result c.take_common-may.new.self c.in-Some.ensures.handed takes in
    cc (may, c.if-prove.true)

pub loop-of-by_line-smaller-in-Some : goal.loop-of-by_line-smaller-in-Some
loop-of-by_line-smaller-in-Some c = c.in-Some.ensures.shorter

pub loop-of-by_line-preserved-in-Some : goal.loop-of-by_line-preserved-in-Some
loop-of-by_line-preserved-in-Some c =
    let schema = c.args.schema.now in
    let s = c.args.site.0 in
    let lent = c.next_common.new.self in
    let takes = subst (λ (es : List Escrow). TakesIn schema c.loop-of-by_line.standing (record_told c.in-Some.next es) c.take_common-may.result
    c.take_common-may.new.self) c.escrows.ensures.all c.take_common-may.ensures.takes_in in
    record {
      few = omega (arith, c.loop-of-by_line.invariant.few, c.in-Some.ensures.shorter);
      walks = λ all end_. stepped schema s all c.args.end.now end_ c.loop-of-by_line.standing c.loop-of-by_line.turns c.loop-of-by_line.records.left
          (c.loop-of-by_line.invariant.walks all end_) (record_told c.in-Some.next lent.escrows) lent.left c.take_common-may.result
          c.take_common-may.new.self c.in-Some.ensures.handed takes c.if-prove.false;
    }

pub overflow_add-turns-in-Record : goal.overflow_add-turns-in-Record
overflow_add-turns-in-Record c =
    let at = at_line _ c.in_default.ensures.handed c.in_ok-record.ensures.handed c.in-Record.is in
    omega (
      arith,
      c.loop-of-by_line.invariant.few,
      fewer c.loop-of-by_line.records.left c.next_line.new.self.left c.in-Record.record at.parts,
      c.as_slice.type_inv.0,
      ap length c.as_slice.ensures.all,
    )

pub take_in-may-requires-clause-places : goal.take_in-may-requires-clause-places
take_in-may-requires-clause-places c =
    let now = c.loop-of-by_line.standing in
    let end_ = c.requires.end_.1 in
    let walks = c.loop-of-by_line.invariant.walks c.requires.end_.0 end_ in
    has_places c.args.schema.now c.args.site.0 (up_to end_.holds.last.before c.args.end.now.summary
    ++ walks.taken) now.rights now.ledger now.epoch walks.stands.for_

pub take_in-may-requires-clause-plain : goal.take_in-may-requires-clause-plain
take_in-may-requires-clause-plain c =
    let end_ = c.requires.end_.1 in
    let walks = c.loop-of-by_line.invariant.walks c.requires.end_.0 end_ in
    let at = at_line _ c.in_default.ensures.handed c.in_ok-record.ensures.handed c.in-Record.is in
    (turn_of c.args.schema.now c.args.site.0 c.requires.end_.0 c.args.end.now end_ c.loop-of-by_line.standing c.loop-of-by_line.turns c.loop-of-by_line.records.left
    walks c.in-Record.record c.next_line.new.self.left at.parts at.fits).plain

pub prove-unreachable-requires-in-Record : goal.prove-unreachable-requires-in-Record
prove-unreachable-requires-in-Record c =
    let end_ = c.requires.end_.1 in
    let walks = c.loop-of-by_line.invariant.walks c.requires.end_.0 end_ in
    let at = at_line _ c.in_default.ensures.handed c.in_ok-record.ensures.handed c.in-Record.is in
    let may = taken_in c.args.schema.now c.args.site.0 c.requires.end_.0 c.args.end.now end_ c.loop-of-by_line.standing c.loop-of-by_line.turns
    c.loop-of-by_line.records.left walks c.in-Record.record c.next_line.new.self.left c.take_in-may.result c.take_in-may.new.self at
    c.take_in-may.ensures.takes_in in
    cc (may, c.if-prove-2.true)

pub loop-of-by_line-smaller : goal.loop-of-by_line-smaller
loop-of-by_line-smaller c =
    let at = at_line _ c.in_default.ensures.handed c.in_ok-record.ensures.handed c.in-Record.is in
    omega (arith, fewer c.loop-of-by_line.records.left c.next_line.new.self.left c.in-Record.record at.parts, ap length c.give_back.ensures.same)

pub loop-of-by_line-preserved : goal.loop-of-by_line-preserved
loop-of-by_line-preserved c =
    let schema = c.args.schema.now in
    let s = c.args.site.0 in
    let read = c.args.end.now in
    let at = at_line _ c.in_default.ensures.handed c.in_ok-record.ensures.handed c.in-Record.is in
    let same = c.give_back.ensures.same in
    record {
      few = omega (
        arith,
        c.loop-of-by_line.invariant.few,
        fewer c.loop-of-by_line.records.left c.next_line.new.self.left c.in-Record.record at.parts,
        ap length same,
      );
      walks = λ all end_. subst (λ (l : List ℕ). Walks schema s all read end_ c.take_in-may.new.self (c.loop-of-by_line.turns + 1) l) (sym same)
          (stepped schema s all read end_ c.loop-of-by_line.standing c.loop-of-by_line.turns c.loop-of-by_line.records.left (c.loop-of-by_line.invariant.walks all end_)
          c.in-Record.record c.next_line.new.self.left c.take_in-may.result c.take_in-may.new.self at c.take_in-may.ensures.takes_in
          c.if-prove-2.false);
    }

pub unreachable-requires : goal.unreachable-requires
unreachable-requires c =
    let left = c.loop-of-by_line.records.left in
    let end_ = c.requires.end_.1 in
    let walks = c.loop-of-by_line.invariant.walks c.requires.end_.0 end_ in
    let bad = bad_at_line _ c.in_default.ensures.handed c.in_ok-record.ensures.handed c.in-NoRecord.is in
    no_log left 1 (bad_there left [] left 0 (begins_none left) bad.0).0 walks.left end_.rest walks.log

pub returns-clause-standing : goal.returns-clause-standing
returns-clause-standing c = λ all end_.
    let none = end_at_line _ c.in_default.ensures.handed c.in_ok-record.ensures.handed c.in-End.is in
    (walks_end c.args.schema.now c.args.site.0 all c.args.end.now end_ c.loop-of-by_line.standing c.loop-of-by_line.turns c.loop-of-by_line.records.left
    (c.loop-of-by_line.invariant.walks all end_) none.0).0

pub returns-clause-turns : goal.returns-clause-turns
returns-clause-turns c = λ all end_.
    let none = end_at_line _ c.in_default.ensures.handed c.in_ok-record.ensures.handed c.in-End.is in
    (walks_end c.args.schema.now c.args.site.0 all c.args.end.now end_ c.loop-of-by_line.standing c.loop-of-by_line.turns c.loop-of-by_line.records.left
    (c.loop-of-by_line.invariant.walks all end_) none.0).1
