-- Steps that a world has taken, with what answered each (this project). They stand in order, the oldest first.
use Rattle.std.specs.Prelude.{◌≡◌, List, [], ◌∷◌, ◌++◌, map}
use Rattle.world_steps.specs.declared.step.WorldStep.{WorldStep}
use Rattle.world_steps.specs.View.{WorldValue, Answers}
use Rattle.reaching_steps.specs.declared.taken.StepTaken.{StepTaken}

-- The steps alone.
abbrev pub steps_of : List StepTaken → List WorldStep
steps_of taken = map (λ one. one.step) taken

-- A world that has taken these steps more.
abbrev pub with_steps : WorldValue → List WorldStep → WorldValue
with_steps w more = record { schema = w.schema; steps = w.steps ++ more }

-- A world has taken a front of these steps more, and nothing else: none of them, all, or the first ones.
pub record TookFront (before : WorldValue) (more : List WorldStep) (later : WorldValue) : Type 0 where
  pub front : List WorldStep
  pub rest : List WorldStep
  pub parts : front ++ rest ≡ more
  pub world : later ≡ with_steps before front

-- Each was answered so where the steps before it were taken behind the world's own.
abbrev pub AreAnswered : WorldValue → List StepTaken → Type 0
AreAnswered w [] = Unit {0}
AreAnswered w (one ∷ later) =
    Answers one.reply w one.step (with_steps w (one.step ∷ [])) × AreAnswered (with_steps w (one.step ∷ [])) later
