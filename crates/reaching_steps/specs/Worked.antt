-- Worked rows of reach, in a world of two sites (this project). Of a field from 0 to 100 at 40, each site has 20 rights to
-- lower it and 30 to raise it.
use Rattle.std.specs.Prelude.{◌≡◌, ℕ, ℤ, pos, neg_ℤ, List, [], ◌∷◌, ◌++◌, Some, None}
use Rattle.field_bounds.specs.declared.kind.Kind.TheVariants.{Lower}
use Rattle.field_bounds.specs.declared.entry.Command.TheVariants.{Begin, Escrow, Commit, Abort, Restate, Restart}
use Rattle.field_bounds.specs.Worked.{halved_shelf, stock, txn, lower_by}
use Rattle.field_bounds.specs.WorkedGifts.{site, give_lower}
use Rattle.field_bounds.specs.WorkedTightenings.{raise_floor}
use Rattle.kept_state.specs.declared.luck.Luck.TheVariants.{Fine, Torn}
use Rattle.world_steps.specs.declared.step.WorldStep.{WorldStep}
use Rattle.world_steps.specs.declared.step.WorldStep.TheVariants.{Do, Deliver}
use Rattle.world_steps.specs.World.{trace_by}
use Rattle.reaching_steps.specs.declared.fault.ReachFault.{ReachFault}
use Rattle.reaching_steps.specs.Reach.{fine, reach_steps, reach_fault}

-- After these steps, site 0 has these taken for the target.
abbrev pub Takes : List WorldStep → ℤ → List WorldStep → Type 0
Takes steps target more =
    (reach_fault halved_shelf (trace_by halved_shelf steps) (site 0) stock target ≡ None)
    × (reach_steps halved_shelf steps (site 0) stock target ≡ more)

-- After these steps, site 0 meets this fault.
abbrev pub Meets : List WorldStep → ℤ → ReachFault → Type 0
Meets steps target fault = reach_fault halved_shelf (trace_by halved_shelf steps) (site 0) stock target ≡ Some fault

-- Site 1 moves the field in its transaction of a number.
abbrev pub moved_by : ℕ → ℤ → List WorldStep
moved_by n change = fine 1 Begin ∷ fine 1 (Escrow (txn n) stock change) ∷ fine 1 (Commit (txn n)) ∷ []

abbrev pub down_to_20 : List WorldStep
down_to_20 = moved_by 1 (neg_ℤ (pos 20))

abbrev pub up_to_70 : List WorldStep
up_to_70 = down_to_20 ++ moved_by 2 (pos 50)

-- Site 1 gives to site 0.
abbrev pub given_to_0 : List WorldStep
given_to_0 = fine 1 (give_lower 0 5) ∷ []

abbrev pub row_received : List WorldStep
row_received = given_to_0 ++ Deliver 1 Fine ∷ []

-- Site 0 gives, and is left in doubt: the record of 10 bytes is kept.
abbrev pub row_untold : List WorldStep
row_untold = Do (site 0) (give_lower 1 5) (Torn 10) ∷ fine 0 Restart ∷ []

abbrev pub row_told : List WorldStep
row_told = row_untold ++ fine 0 (Restate (site 1) stock Lower) ∷ []

abbrev pub by_site_1 : List WorldStep
by_site_1 = Deliver 1 Fine ∷ moved_by 1 (neg_ℤ (pos 25))

-- Site 1 fails to restart.
abbrev pub row_stopped : List WorldStep
row_stopped = Do (site 1) Restart (Torn 0) ∷ []

-- Site 1 gives up one right to lower.
abbrev pub cut : List WorldStep
cut = fine 1 (raise_floor 1) ∷ []

-- Site 1 has two transactions open: 15 of its 20 rights are held.
abbrev pub row_opened : List WorldStep
row_opened = fine 1 Begin ∷ fine 1 (lower_by 1 10) ∷ fine 1 Begin ∷ fine 1 (Escrow (txn 2) stock (neg_ℤ (pos 5))) ∷ []

abbrev pub row_ended : List WorldStep
row_ended = fine 1 (Abort (txn 1)) ∷ fine 1 (Abort (txn 2)) ∷ moved_by 3 (neg_ℤ (pos 20))
