-- Each number that was gone over is written.
use Rattle.std.proofs.Common.{◌≡◌, ◌++◌, take}
use Rattle.log_head.specs.Heads.{spaced}
use Rattle.log_head.proofs.writing.push_numbers.Given as goal

abbrev pub invariant-loop-number : goal.invariant-loop-number
invariant-loop-number l = l.text.items ≡ l.initial.text.items ++ spaced (take l.number-index l.numbers)
