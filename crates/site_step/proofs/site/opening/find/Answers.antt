use Rattle.std.proofs.Common.{List, ◌+◌, ◌++◌, ◌∙◌, sym, ap, subst}
use Rattle.field_bounds.specs.declared.entry.Escrow.{Escrow}
use Rattle.kept_records.specs.Text.{IsRecord}
use Rattle.kept_records.specs.Lent.{record_told}
use Rattle.kept_records.proofs.Counts.{lent_plain}
use Rattle.kept_records.proofs.Walks.{at_line, bad_at_line}
use Rattle.log_replay.proofs.StandingLaws.{has_places}
use Rattle.site_step.proofs.Fronts.{read_none, read_more, broken_line, broken_log, bad_line, bad_log}
use Rattle.site_step.proofs.site.opening.find.Goals as goal

pub take_common-requires-clause-places : goal.take_common-requires-clause-places
take_common-requires-clause-places g c =
    let now = c.loop-of-by_line.standing in
    has_places c.args.schema.now c.args._site.0 (g.gone ++ c.loop-of-by_line.based.list.items) now.rights now.ledger now.epoch c.loop-of-by_line.invariant.standing_is.for_

pub take_common-requires-clause-in_range : goal.take_common-requires-clause-in_range
take_common-requires-clause-in_range g c =
    subst (λ (es : List Escrow). IsRecord (record_told c.in-Some.told es)) (sym c.escrows.ensures.all) c.in-Some.ensures.handed.fits

pub returns-then-not-take_common-clause-line : goal.returns-then-not-take_common-clause-line
returns-then-not-take_common-clause-line g c =
    let takes = rw (c.escrows.ensures.all, c.if-not-take_common.true) at c.take_common.ensures.takes_in in
    broken_line c.loop-of-by_line.invariant c.in-Some.ensures.handed takes

pub returns-then-not-take_common-clause-never : goal.returns-then-not-take_common-clause-never
returns-then-not-take_common-clause-never g c =
    let takes = rw (c.escrows.ensures.all, c.if-not-take_common.true) at c.take_common.ensures.takes_in in
    broken_log c.loop-of-by_line.invariant c.in-Some.ensures.handed takes

pub loop-of-by_line-preserved-in-Some : goal.loop-of-by_line-preserved-in-Some
loop-of-by_line-preserved-in-Some g c =
    let takes = rw (c.escrows.ensures.all, c.if-not-take_common.false) at c.take_common.ensures.takes_in in
    read_more c.loop-of-by_line.invariant c.in-Some.ensures.handed takes c.note_lent.ensures.items c.note_lent.ensures.left
    (ap (λ n. c.loop-of-by_line.count + n) (sym (lent_plain c.in-Some.told c.next_common.new.self.escrows)))

pub take_next-requires-clause-places : goal.take_next-requires-clause-places
take_next-requires-clause-places g c =
    let now = c.loop-of-by_line.standing in
    has_places c.args.schema.now c.args._site.0 (g.gone ++ c.loop-of-by_line.based.list.items) now.rights now.ledger now.epoch c.loop-of-by_line.invariant.standing_is.for_

pub returns-then-not-branch-clause-line : goal.returns-then-not-branch-clause-line
returns-then-not-branch-clause-line g c =
    let at = at_line _ c.in_default.ensures.handed c.in_ok-next.ensures.handed c.in-Record.is in
    broken_line c.loop-of-by_line.invariant at (rw c.if-not-branch.true at c.in_ok-take_next-in-Record.ensures.takes_in)

pub returns-then-not-branch-clause-never : goal.returns-then-not-branch-clause-never
returns-then-not-branch-clause-never g c =
    let at = at_line _ c.in_default.ensures.handed c.in_ok-next.ensures.handed c.in-Record.is in
    broken_log c.loop-of-by_line.invariant at (rw c.if-not-branch.true at c.in_ok-take_next-in-Record.ensures.takes_in)

pub loop-of-by_line-preserved : goal.loop-of-by_line-preserved
loop-of-by_line-preserved g c =
    let at = at_line _ c.in_default.ensures.handed c.in_ok-next.ensures.handed c.in-Record.is in
    let takes = rw c.if-not-branch.false at c.in_ok-take_next-in-Record.ensures.takes_in in
    read_more c.loop-of-by_line.invariant at takes c.note.ensures.items c.give_back.ensures.same
    (ap (λ n. c.loop-of-by_line.count + n) c.plain_count.ensures.value)

pub returns-in-NoRecord-clause-line : goal.returns-in-NoRecord-clause-line
returns-in-NoRecord-clause-line g c =
    let bad = bad_at_line _ c.in_default.ensures.handed c.in_ok-next.ensures.handed c.in-NoRecord.is in
    bad_line c.loop-of-by_line.invariant bad.0

pub returns-in-NoRecord-clause-never : goal.returns-in-NoRecord-clause-never
returns-in-NoRecord-clause-never g c = λ all rest log lawful.
    let bad = bad_at_line _ c.in_default.ensures.handed c.in_ok-next.ensures.handed c.in-NoRecord.is in
    bad_log c.loop-of-by_line.invariant bad.0 all rest log

pub loop-of-by_line-init : goal.loop-of-by_line-init
loop-of-by_line-init g c = read_none c.requires (c.of-based.ensures.items ∙ c.new.ensures.items) c.new-lines.ensures.all
