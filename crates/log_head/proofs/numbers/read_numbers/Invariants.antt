-- The words that were read are those of the numbers, and the others are left.
use Rattle.std.proofs.Common.{◌≡◌, ◌++◌, length, All}
use Rattle.std.specs.Prelude.{map}
use Rattle.std.specs.Fmt.{decimal}
use Rattle.line_words.specs.Words.{words}
use Rattle.log_head.specs.Heads.{IsU64}
use Rattle.log_head.proofs.numbers.read_numbers.Given as goal

abbrev pub invariant-loop-words : goal.invariant-loop-words
invariant-loop-words l = record {
  read : words l.fn.line ≡ map decimal l.numbers.items ++ l.words;
  fit : All IsU64 l.numbers.items;
}

abbrev pub decreases-loop-words : goal.decreases-loop-words
decreases-loop-words l = length l.words
