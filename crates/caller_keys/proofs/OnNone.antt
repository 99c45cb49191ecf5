-- Facts of what may not be there, or may have failed.
use Rattle.std.proofs.Common.{Option, Some, None, Result, Ok, Err, IfNone, OnOk}

-- a fact of any value is one where it is None
pub none_anyway : {A : Type 0} {P : Type 0} → (found : Option A) → P → IfNone found P
none_anyway None fact = fact
none_anyway (Some x) fact = tt

-- what a success gives, where it gives another fact
pub on_ok : {A E P Q : Type 0} → (r : Result A E) → OnOk r P → (P → Q) → OnOk r Q
on_ok (Ok x) given then = then given
on_ok (Err e) given then = tt
