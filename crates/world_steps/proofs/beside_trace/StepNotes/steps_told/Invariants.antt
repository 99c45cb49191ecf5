use Rattle.std.proofs.Common.{◌≡◌, ◌-◌, ◌++◌, take, length, reverse}
use Rattle.world_steps.specs.Kept.{steps_told}
use Rattle.world_steps.proofs.beside_trace.StepNotes.steps_told.Given as goal

-- what is told so far, and by what is left, is all
abbrev pub invariant-loop-i : goal.invariant-loop-i
invariant-loop-i l =
    l.steps.items ++ steps_told (reverse l.entries.items) (reverse (take (length l.self.ways.items - l.i) l.self.ways.items))
    (reverse l.numbers.items) (reverse l.torn.items)
    ≡ steps_told (reverse l.trace) (reverse l.self.ways.items) (reverse l.self.numbers.items) (reverse l.self.torn.items)
