use Rattle.std.proofs.Common.{◌≡◌, ◌++◌, take}
use Rattle.kept_records.specs.Text.{words_spaced, rights_words}
use Rattle.kept_records.proofs.writing.push_rights.Given as goal

abbrev pub invariant-loop-row : goal.invariant-loop-row
invariant-loop-row l = l.line.items ≡ l.fn.line.items ++ words_spaced (rights_words (take l.row-index l.rights))
