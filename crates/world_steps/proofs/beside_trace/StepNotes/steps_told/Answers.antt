use Rattle.std.proofs.Common.{◌≡◌, ℕ, ◌-◌, get_or, ◌<◌, ◌∙◌, List, ap, reverse, length, arith}
use Rattle.world_steps.specs.declared.step.WorldStep.{WorldStep}
use Rattle.world_steps.proofs.Told.{told_on, told_stop}
use Rattle.world_steps.proofs.beside_trace.StepNotes.steps_told.Goals as goal

pub returns-in_default : goal.returns-in_default
returns-in_default c =
    let l = c.loop-i in
    let below : l.i < length c.args.self.now.ways.items = omega (arith, c.loop-i-test.true, c.len-i-end.ensures) in
    let long : c.len.result ≡ length c.args.self.now.ways.items = omega (arith, c.len.ensures) in
    let way_is = c.index-way.ensures ∙ ap (λ (n : ℕ). get_or c.args.self.now.ways.items (n - 1 - l.i) c.index-way.result.now) long in
    record {
      steps =
          c.reverse.ensures.items
          ∙ ap (λ (s : List WorldStep). reverse s)
          (told_stop _ c.args.self.now.ways.items l.i _ l.steps.items l.entries.items c.newest.new.entries.items l.numbers.items
          c.newest.new.numbers.items l.torn.items c.newest.new.torn.items below way_is c.in_default.ensures.step l.invariant);
    }

pub loop-i-preserved : goal.loop-i-preserved
loop-i-preserved c =
    let l = c.loop-i in
    let below : l.i < length c.args.self.now.ways.items = omega (arith, c.loop-i-test.true, c.len-i-end.ensures) in
    let long : c.len.result ≡ length c.args.self.now.ways.items = omega (arith, c.len.ensures) in
    let way_is = c.index-way.ensures ∙ ap (λ (n : ℕ). get_or c.args.self.now.ways.items (n - 1 - l.i) c.index-way.result.now) long in
    told_on _ c.args.self.now.ways.items l.i _ l.steps.items _ c.in-Some.step l.entries.items c.newest.new.entries.items l.numbers.items
    c.newest.new.numbers.items l.torn.items c.newest.new.torn.items below way_is c.in-Some.ensures.step
    c.in_ok-push.ensures.items l.invariant
