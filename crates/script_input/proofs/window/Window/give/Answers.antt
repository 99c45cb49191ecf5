use Rattle.std.proofs.Common.{◌≡◌, ℕ, ◌+◌, slice_range, ap, ◌∙◌, arith}
use Rattle.std.proofs.lemmas.List.{length-take, length-drop}
use Rattle.script_input.proofs.WindowLemmas.{rest_after}
use Rattle.script_input.proofs.window.Window.give.Goals as goal

pub returns-clause-rest : goal.returns-clause-rest
returns-clause-rest c =
    let w = c.args.self.now in
    let sum : w.start + c.args.count + c.args.ending ≡ w.start + (c.args.count + c.args.ending) = omega arith in
    ap (λ s. slice_range w.bytes.items s w.end) sum
    ∙ rest_after w.bytes.items w.start w.end (c.args.count + c.args.ending)
    (omega (arith, c.requires, length-take {A = ℕ}, length-drop {A = ℕ}))
