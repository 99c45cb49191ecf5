use Rattle.std.proofs.Common.{◌≡◌, ◌++◌, take}
use Rattle.kept_records.specs.Text.{words_spaced, cuts_words}
use Rattle.kept_records.proofs.writing.push_cuts.Given as goal

abbrev pub invariant-loop-told : goal.invariant-loop-told
invariant-loop-told l = l.line.items ≡ l.fn.line.items ++ words_spaced (cuts_words (take l.told-index l.totals))
