use Rattle.std.proofs.Common.{List, refl, sym, subst, ◌∙◌, arith, rules}
use Rattle.field_bounds.specs.declared.entry.Entry.{Entry}
use Rattle.central_rules.specs.Verdict.{verdict_back}
use Rattle.central_machine.specs.FrontTotals.{AreRunning}
use Rattle.central_machine.proofs.Reading.{inside, shorter, next, front_is, stops, goes_on, ends, ends_legal}
use Rattle.central_machine.proofs.judging.judge_each.Goals as goal

pub loop-entry-init : goal.loop-entry-init
unfolding verdict_back
loop-entry-init c = record { same = refl; within = omega arith; legal = refl; totals = c.in_ok-totals.ensures }

pub returns-in-Some-2-clause-verdict : goal.returns-in-Some-2-clause-verdict
returns-in-Some-2-clause-verdict c =
    let was = c.loop-entry.invariant in
    let found = sym (c.in_ok-rule.ensures.rule _ was.totals) ∙ c.in-Some-2.is in
    stops c.args.schema.now c.args.entries.now c.loop-entry.reader.entries.now was.same c.loop-entry.reader.read c.next.new.self.read
    c.next.result c.next.ensures.value c.next.ensures.read
    c.in-Some.entry c.in-Some.is was.legal c.in-Some-2.rule found

pub loop-entry-smaller : goal.loop-entry-smaller
loop-entry-smaller c =
    let was = c.loop-entry.invariant in
    let more = next c.args.schema.now c.args.entries.now c.loop-entry.reader.entries.now was.same c.loop-entry.reader.read
    c.next.new.self.read c.next.result c.next.ensures.value c.next.ensures.read c.in-Some.entry c.in-Some.is in
    let below = inside c.args.schema.now c.args.entries.now c.loop-entry.reader.entries.now was.same c.loop-entry.reader.read
    c.next.new.self.read c.next.result c.next.ensures.value c.next.ensures.read c.in-Some.entry c.in-Some.is in
    omega (arith, more, below)

pub loop-entry-preserved : goal.loop-entry-preserved
loop-entry-preserved c =
    let was = c.loop-entry.invariant in
    let xs = c.loop-entry.reader.entries.now in
    let i = c.loop-entry.reader.read in
    let j = c.next.new.self.read in
    let good = sym (c.in_ok-rule.ensures.rule _ was.totals) ∙ c.in_default-2.is in
    let front = front_is c.args.schema.now c.args.entries.now xs was.same i j c.next.result c.next.ensures.value c.next.ensures.read
    c.in-Some.entry c.in-Some.is in
    let more = next c.args.schema.now c.args.entries.now xs was.same i j c.next.result c.next.ensures.value c.next.ensures.read
    c.in-Some.entry c.in-Some.is in
    let below = inside c.args.schema.now c.args.entries.now xs was.same i j c.next.result c.next.ensures.value c.next.ensures.read
    c.in-Some.entry c.in-Some.is in
    let few = shorter c.args.schema.now c.args.entries.now xs was.same i j c.next.result c.next.ensures.value c.next.ensures.read
    c.in-Some.entry c.in-Some.is 230584300921369395 c.length_of-few.ensures.few in
    record {
      same = c.next.ensures.entries ∙ was.same;
      within = omega (arith, more, below);
      legal = goes_on c.args.schema.now c.args.entries.now xs was.same i j c.next.result c.next.ensures.value c.next.ensures.read
          c.in-Some.entry c.in-Some.is was.legal good;
      totals = subst (λ (t : List Entry). AreRunning c.args.schema.now t c.take_in.new.self) (sym front)
          (c.in_ok-rule.ensures.totals _ few was.totals was.legal c.in_default-2.is);
    }

pub returns-clause-verdict : goal.returns-clause-verdict
returns-clause-verdict c =
    let was = c.loop-entry.invariant in
    ends_legal c.args.schema.now c.args.entries.now c.loop-entry.reader.entries.now was.same c.loop-entry.reader.read c.next.new.self.read
    c.next.result c.next.ensures.value c.next.ensures.read c.in_default.is was.within was.legal

pub returns-clause-count : goal.returns-clause-count
returns-clause-count c =
    let was = c.loop-entry.invariant in
    (ends c.args.schema.now c.args.entries.now c.loop-entry.reader.entries.now was.same c.loop-entry.reader.read c.next.new.self.read
    c.next.result c.next.ensures.value c.next.ensures.read c.in_default.is was.within).1

pub returns-in-Some-2-clause-count : goal.returns-in-Some-2-clause-count
returns-in-Some-2-clause-count c = search rules
