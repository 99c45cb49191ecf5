-- What a fault says of the bytes in front of it.
use Rattle.std.proofs.Common.{◌≢◌, List, ℕ, refl}
use Rattle.script_input.specs.declared.fault.ScriptFault.{ScriptFault}
use Rattle.script_input.specs.declared.fault.ScriptFault.TheVariants.{Read, TooLong, Write, Header, BadLine, Work, Stuck, Illegal, NoMemory}
use Rattle.script_input.specs.Faults.{IsWithin, Explains}

-- but for a write fault they are within the limits
pub explains_within : (fault : ScriptFault) (front back : List ℕ) (ended : Type 0) → fault ≢ Write → Explains fault front back ended
    → IsWithin front
explains_within (Header e) front back ended other why = why.0
explains_within Read front back ended other why = why.0
explains_within TooLong front back ended other why = why.0
explains_within Write front back ended other why = absurd (other refl)
explains_within (BadLine n) front back ended other why = absurd why
explains_within (Work e) front back ended other why = absurd why
explains_within Stuck front back ended other why = absurd why
explains_within Illegal front back ended other why = absurd why
explains_within NoMemory front back ended other why = why.0
