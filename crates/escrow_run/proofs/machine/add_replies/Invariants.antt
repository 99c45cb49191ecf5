use Rattle.std.proofs.Common.{◌≡◌, length, take}
use Rattle.escrow_run.proofs.TakenLemmas.{TellsFront}
use Rattle.escrow_run.proofs.machine.add_replies.Given as goal

abbrev pub invariant-loop-one : goal.invariant-loop-one
invariant-loop-one l =
    TellsFront l.schema l.taken l.one-index l.initial.out.items l.out.items
    × (take (length l.initial.out.items) l.out.items ≡ l.initial.out.items)
