use Rattle.std.proofs.Common.{◌≡◌, take}
use Rattle.escrow_work.specs.Work.{work_text}
use Rattle.escrow_work.proofs.judged.text_of.Given as goal

abbrev pub invariant-loop-entry : goal.invariant-loop-entry
invariant-loop-entry l = l.out.items ≡ work_text l.schema l.fn.header.items (take l.entry-index l.entries)
