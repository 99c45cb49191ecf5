use Rattle.std.proofs.Common.{◌∙◌, refl, sym}
use Rattle.std.proofs.Math.Facts.{to_z-of_z}
use Rattle.reaching_steps.proofs.faults.fault_flight.Goals as goal

pub returns-in-Some : goal.returns-in-Some
returns-in-Some c =
    let found = rw (c.sites-sites.ensures.value, c.schema.ensures.value, c.world.ensures.value) at c.in_ok-found.ensures.value in
    record { value = rw (sym found ∙ c.in-Some.is) refl }

pub returns-in-None : goal.returns-in-None
returns-in-None c =
    let found = rw (c.sites-sites.ensures.value, c.schema.ensures.value, c.world.ensures.value) at c.in_ok-found.ensures.value in
    record { value = rw (sym found ∙ c.in-None.is) (rw (to_z-of_z c.ranges.target) at c.fault_unstated.ensures.value) }
