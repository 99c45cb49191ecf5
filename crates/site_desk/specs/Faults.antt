-- When a call of a desk fails (this project).
use Rattle.std.specs.Prelude.{◌≡◌, ℕ, ◌<◌}
use Rattle.site_desk.specs.declared.fault.DeskFault.{DeskFault}
use Rattle.site_desk.specs.declared.fault.DeskFault.TheVariants.{NoMemory, WentBack, GateTurns}

-- The fault of a call with a pass whose last number is `last`, at a history of this length
abbrev pub FailsAt : ℕ → ℕ → DeskFault → Type 0
FailsAt last found NoMemory = Unit {0}
FailsAt last found (WentBack len) = (len ≡ found) × (found < last)
FailsAt last found GateTurns = ⊥

-- The same, where the length isn't known
abbrev pub Fails : ℕ → DeskFault → Type 0
Fails last NoMemory = Unit {0}
Fails last (WentBack len) = len < last
Fails last GateTurns = ⊥

-- The same of a call with a gate
abbrev pub FailsAtGate : ℕ → DeskFault → Type 0
FailsAtGate last NoMemory = Unit {0}
FailsAtGate last (WentBack len) = len < last
FailsAtGate last GateTurns = Unit {0}
