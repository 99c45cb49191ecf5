use Rattle.std.proofs.Common.{◌≡◌, ◌≢◌, [], None, All, ◌∙◌, ap, sym, subst, rules}
use Rattle.std.proofs.lemmas.Result.{on_ok_weaker}
use Rattle.reaching_steps.specs.declared.fault.ReachFault.{ReachFault}
use Rattle.reaching_steps.specs.declared.fault.ReachFault.TheVariants.{NoMemory}
use Rattle.reaching_steps.specs.Reach.{reach_steps, reach_fault}
use Rattle.reaching_steps.specs.Body.{Explains}
use Rattle.reaching_steps.specs.Taken.{steps_of, with_steps, AreAnswered}
use Rattle.world_steps.specs.View.{WorldValue, trace_of}
use Rattle.escrow_run.specs.Reach.{IsReason}
use Rattle.escrow_run.specs.Run.{IsAnswered, Answered}
use Rattle.escrow_run.proofs.AimLemmas.{asks_in_vain}
use Rattle.escrow_run.proofs.AnswerLemmas.{answered_many, took_none}
use Rattle.escrow_run.proofs.TakenLemmas.{all_answered, answered_reach}
use Rattle.escrow_run.proofs.machine.Machine.reach_for.Goals as goal

pub add_taken-requires : goal.add_taken-requires
add_taken-requires c = record {
  answered = subst (λ l. All IsAnswered l) (sym c.as_slice.ensures.value)
      (all_answered c.args.self.now.world c.in-Ok.taken.items c.in-Ok.ensures.answered);
}

pub returns-in-Ok-clause-ok : goal.returns-in-Ok-clause-ok
returns-in-Ok-clause-ok c =
    let world = c.args.self.now.world in
    let aim = c.args.aim in
    let items = c.in-Ok.taken.items in
    let slice = c.as_slice.result.now in
    let is : slice ≡ items = c.as_slice.ensures.value in
    let clear : reach_fault world.schema (trace_of world) aim.site aim.field aim.target ≡ None = search rules in
    let are : steps_of items ≡ reach_steps world.schema world.steps aim.site aim.field aim.target = search rules in
    on_ok_weaker c.add_taken.result (λ tells.
    answered_reach world c.reach_in.new.world _ c.args.line.now aim slice c.args.out.now.items c.add_taken.new.out.items c.requires.aims
    clear (ap steps_of is ∙ are) (c.in-Ok.ensures.taken ∙ ap (λ l. with_steps world (steps_of l)) (sym is))
    (subst (λ l. AreAnswered world l) (sym is) c.in-Ok.ensures.answered) c.schema.ensures.value tells)
    c.add_taken.ensures.ok

pub returns-in-Some-clause-ok : goal.returns-in-Some-clause-ok
returns-in-Some-clause-ok c =
    let world = c.args.self.now.world in
    let aim = c.args.aim in
    let word = c.in-Some.word.now in
    let why : Explains c.in-Err.fault (reach_fault world.schema (trace_of world) aim.site aim.field aim.target) = search rules in
    let asks = asks_in_vain world c.args.line.now aim c.in-Err.fault word c.requires.aims (c.in-Some.ensures.why _ why)
    c.in-Some.ensures.word in
    let apart : c.in-Err.fault ≢ NoMemory = λ e. subst (λ (f : ReachFault). IsReason f word) e c.in-Some.ensures.word in
    let back : c.reach_in.new.world ≡ world = c.in-Err.ensures.same apart in
    on_ok_weaker c.add_told.result (λ is.
    subst (λ (x : WorldValue). Answered c.args.line.now world x c.args.out.now.items c.add_told.new.out.items) (sym back)
    (answered_many c.args.line.now [] _ world world _ _ _ asks is (took_none world _)))
    c.add_told.ensures.ok
