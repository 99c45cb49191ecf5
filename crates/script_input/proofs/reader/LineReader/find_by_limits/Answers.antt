use Rattle.std.proofs.Common.{◌≡◌, ◌-◌, ◌<◌, ◌≤◌, length, ap, subst, inl, arith}
use Rattle.std.specs.List.{All}
use Rattle.std.proofs.lemmas.List.{take_all}
use Rattle.script_input.specs.Reader.{pending, HasGiven}
use Rattle.script_input.proofs.ReaderLemmas.{behind_passed, behind_some, passes, finds_long, finds_past, finds_broken, finds_last, some_of}
use Rattle.script_input.proofs.reader.LineReader.find_by_limits.Goals as goal
use Rattle.script_input.proofs.reader.LineReader.find_by_limits.Goals.{then-ending-gt0-via-then-ending-gt0, then-ending-gt0-via-else-ending-gt0+then-self}

pub returns-then-count-ending-eq0-clause-next : goal.returns-then-count-ending-eq0-clause-next
returns-then-count-ending-eq0-clause-next c = λ from to last given reads. c.find_end.ensures.next from to last given c.args.most reads

pub returns-then-room-most-clause-next : goal.returns-then-room-most-clause-next
returns-then-room-most-clause-next c = λ from to last given reads.
    finds_long from to last c.args.self.now c.pass_over.new.self given reads c.args.count
    (omega (arith, c.requires.fits)) c.requires.unbroken c.min.result c.args.most
    (omega (arith, c.min.ensures)) (omega (arith, c.min.ensures, c.if-count-most.true, c.if-room-most.true)) c.pass_over.ensures.passed

pub returns-then-count-ending-clause-next : goal.returns-then-count-ending-clause-next
returns-then-count-ending-clause-next c = λ from to last given reads.
    finds_past from to last c.args.self.now c.args.self.now given reads c.args.count
    (omega (arith, c.requires.fits)) c.requires.unbroken (268435456 - c.args.self.now.taken)
    (omega (arith, c.requires.ending, c.if-count-ending.true)) (omega (arith, c.requires.fits, c.if-count-ending.true))
    (omega (arith, c.if-self-ge-MOST_LINES.false)) (omega (arith, c.args.self.now.small))

pub returns-then-ending-gt0-clause-next : goal.returns-then-ending-gt0-clause-next
returns-then-ending-gt0-clause-next c = λ from to last given reads.
    let old = c.args.self.now in
    let count = c.args.count in
    let part = c.requires in
    let fits : count ≤ length (pending old) = omega (arith, part.fits) in
    let room : old.lines < 1000000 = omega (arith, c.if-self-ge-MOST_LINES.false) in
    let short : old.passed ≡ 0 → count ≤ c.args.most = λ none. omega (arith, none, c.else-self-eq0.either, c.if-count-ending.false) in
    elim c.then-ending-gt0.branch [
      | then-ending-gt0-via-then-ending-gt0 w ↦
          let one : c.args.ending ≡ 1 = omega (arith, part.ending, w.if-ending-gt0.true) in
          finds_broken from to last old c.give.new.self given reads count fits part.unbroken c.args.most c.give.result
          c.give.ensures.line c.give.ensures.passed room short (subst (HasGiven old c.give.new.self count) one c.give.ensures.given)
          (part.broken one) (omega (arith, one, c.if-count-ending.false, old.small))
      | then-ending-gt0-via-else-ending-gt0+then-self w ↦
          let none : c.args.ending ≡ 0 = omega (arith, w.if-ending-gt0.false) in
          let some : 0 < count = some_of count (λ zero. c.if-count-ending-eq0.false (omega (arith, zero, none))) in
          finds_last from to last old c.give.new.self given reads count fits part.unbroken c.args.most c.give.result
          c.give.ensures.line c.give.ensures.passed room short (subst (HasGiven old c.give.new.self count) none c.give.ensures.given)
          (part.whole none) w.if-self.true (omega (arith, c.if-count-ending.false, old.small))
          (behind_some from to last old given reads (λ empty. let size = ap length empty in omega (arith, size, some, part.fits)))
          (inl (omega (arith, some)))
    ]

pub returns-then-self-gt0-clause-next : goal.returns-then-self-gt0-clause-next
returns-then-self-gt0-clause-next c = λ from to last given reads.
    let old = c.args.self.now in
    let part = c.requires in
    passes from to last old c.pass_over-then-self-gt0.new.self given reads c.args.count (omega (arith, part.fits))
    part.unbroken c.args.count (omega arith) c.pass_over-then-self-gt0.ensures.passed
    (behind_passed from to last old given reads c.if-self-gt0.true)

pub returns-else-self-gt0-clause-due : goal.returns-else-self-gt0-clause-due
returns-else-self-gt0-clause-due c =
    let part = c.requires in
    let whole = part.whole (omega (arith, c.if-ending-gt0.false)) in record {
      unbroken = subst (All (λ b. b ≡ 10 → ⊥)) (take_all c.args.count (pending c.args.self.now) (omega (arith, whole)))
          part.unbroken;
      room = omega (arith, whole, c.else-self-eq0.either, c.if-count-ending.false, c.if-self-gt0.false, c.requires.most);
      bytes = omega (arith, whole, c.if-count-ending.false, c.args.self.now.small);
      lines = inl (omega (arith, c.if-self-ge-MOST_LINES.false));
      not_ended = c.if-self.false;
    }
