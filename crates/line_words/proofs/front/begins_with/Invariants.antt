use Rattle.std.proofs.Common.{◌≡◌, take}
use Rattle.line_words.proofs.front.begins_with.Given as goal

abbrev pub invariant-loop-at : goal.invariant-loop-at
invariant-loop-at l = take l.at l.bytes ≡ take l.at l.text
