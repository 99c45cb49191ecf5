-- The lines so far are the entries.
use Rattle.std.proofs.Common.{◌≡◌, ◌++◌, length}
use Rattle.escrow_c.specs.Texts.{lines_text}
use Rattle.escrow_c.proofs.trace.entries_of.Given as goal

abbrev pub invariant-lines : goal.invariant-lines
invariant-lines l = record { parts : l.text ≡ lines_text l.schema l.entries.items ++ l.rest }

abbrev pub decreases-lines : goal.decreases-lines
decreases-lines l = length l.rest
