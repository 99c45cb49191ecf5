-- How many reads failed and writes were refused, by the fault that ends a call (this project).
use Rattle.std.specs.Prelude.{◌≡◌, ℕ, Result, Ok, Err}
use Rattle.script_input.specs.Streams.{one_more}
use Rattle.site_service.specs.declared.fault.ServeFault.{ServeFault}
use Rattle.site_service.specs.declared.fault.ServeFault.TheVariants as faults

-- How many reads failed, after a call that this fault ends: one more at a read fault, and else as many.
abbrev pub reads_failed : ServeFault → ℕ → ℕ
reads_failed faults.Read count = one_more count
reads_failed faults.Write count = count
reads_failed faults.Device count = count
reads_failed faults.TooLong count = count
reads_failed faults.NoMemory count = count

-- How many writes were refused, after a call that this fault ends.
abbrev pub writes_refused : ServeFault → ℕ → ℕ
writes_refused faults.Write count = one_more count
writes_refused faults.Read count = count
writes_refused faults.Device count = count
writes_refused faults.TooLong count = count
writes_refused faults.NoMemory count = count

-- How many reads failed, and how many writes were refused, after a call that ends so.
abbrev pub CountsReads : {T : Type 0} → Result T ServeFault → ℕ → ℕ → Type 0
CountsReads (Ok x) before after = after ≡ before
CountsReads (Err fault) before after = after ≡ reads_failed fault before

abbrev pub CountsWrites : {T : Type 0} → Result T ServeFault → ℕ → ℕ → Type 0
CountsWrites (Ok x) before after = after ≡ before
CountsWrites (Err fault) before after = after ≡ writes_refused fault before
