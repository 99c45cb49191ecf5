use Rattle.std.proofs.Common.{◌≡◌, ◌<◌, length, sym, ap, inl, inr, arith}
use Rattle.script_input.proofs.ReaderLemmas.{behind_first, behind_passed, finds_last, some_of}
use Rattle.script_input.proofs.reader.LineReader.find_end.Goals as goal
use Rattle.script_input.proofs.reader.LineReader.find_end.Goals.{else-self-eq0-via-then-self-eq0+else-self-gt0, else-self-eq0-via-else-self-eq0}

pub returns-clause-next : goal.returns-clause-next
returns-clause-next c = λ from to last given most reads.
    let old = c.args.self.now in
    let give = λ (lines : old.lines < 1000000).
    finds_last from to last old c.give.new.self given reads 0 (omega arith) (λ k d h e. omega (arith, h)) most c.give.result
    c.give.ensures.line c.give.ensures.passed lines (λ none. omega arith) c.give.ensures.given (sym (ap length c.requires.none))
    c.if-not-self.false (omega (arith, old.small)) in
    elim c.else-self-eq0.branch [
      | else-self-eq0-via-then-self-eq0+else-self-gt0 w ↦
          let first : old.lines ≡ 0 = omega (arith, w.if-self-gt0.false) in
          give (omega (arith, first)) (behind_first from to last old given reads first) (inr first)
      | else-self-eq0-via-else-self-eq0 w ↦
          let some : 0 < old.passed = some_of old.passed w.if-self-eq0.false in
          give (old.inside some) (behind_passed from to last old given reads some) (inl (omega (arith, some)))
    ]
