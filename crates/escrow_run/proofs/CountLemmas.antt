-- How many reads failed, and how many writes were refused, in a run that writes once more at its end.
use Rattle.std.proofs.Common.{◌≡◌, ◌≢◌, ℕ, ◌<◌, List, [], length, Result, Ok, Err, IfErr, refl, sym, ap, ◌∙◌, subst, arith}
use Rattle.script_input.specs.declared.fault.ScriptFault.{ScriptFault}
use Rattle.script_input.specs.declared.fault.ScriptFault.TheVariants.{Read, Write}
use Rattle.script_input.specs.Streams.{one_more}
use Rattle.script_input.specs.Faults.{CountsRead, CountsReads, CountsWrite}

none_long : (out : List ℕ) → out ≡ [] → 0 < length out → ⊥
none_long out none some = let long : length out ≡ 0 = ap length none in absurd (omega (arith, long, some))

-- the last write ends a run in which no read failed
pub reads_written : {T : Type 0} (r : Result T ScriptFault) (before after : ℕ) → IfErr r (λ fault. fault ≡ Write) → after ≡ before
    → CountsReads r before after
reads_written {T} (Ok x) before after is same = same
reads_written {T} (Err fault) before after is same = subst (λ f. CountsReads {T = T} (Err f) before after) (sym is) same

-- a write was refused after a fault: no read failed before it, since behind one that fails nothing is left to be written
pub reads_again : (fault : ScriptFault) (out : List ℕ) (before after : ℕ) → (fault ≡ Read → out ≡ []) → 0 < length out
    → CountsRead fault before after → after ≡ before
reads_again Read out before after empty some = absurd (none_long out (empty refl) some)
reads_again fault out before after empty some = λ same. same

none_refused : (fault : ScriptFault) (before after : ℕ) → fault ≢ Write → CountsWrite fault before after → after ≡ before
none_refused Write before after other = absurd (other refl)
none_refused fault before after other = λ same. same

pub writes_again : (first last : ScriptFault) (before middle after : ℕ) → first ≢ Write → CountsWrite first before middle → last ≡ Write
    → CountsWrite last middle after → after ≡ one_more before
writes_again first last before middle after other none is one =
    subst (λ f. CountsWrite f middle after) is one ∙ ap one_more (none_refused first before middle other none)

pub writes_other : (fault : ScriptFault) (before middle after : ℕ) → CountsWrite fault before middle → after ≡ middle
    → CountsWrite fault before after
writes_other fault before middle after counts same = subst (CountsWrite fault before) (sym same) counts
