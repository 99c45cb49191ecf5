use Rattle.std.proofs.Common.{◌≡◌, false, refl}
use Rattle.field_bounds.specs.declared.entry.Command.{Command}
use Rattle.field_bounds.specs.declared.entry.Command.TheVariants.{Restart}
use Rattle.field_bounds.proofs.Refused.{is_restart}
use Rattle.kept_state.proofs.Growing.{keeps_answered, keeps_refused, keeps_unsure, keeps_still_down, keeps_restarted}
use Rattle.kept_state.proofs.steps.replies_leave.Goals as goal

no_restart : (c : Command) → (c ≡ Restart → ⊥) → is_restart c ≡ false
no_restart Restart h = absurd (h refl)
no_restart c h = refl

pub returns-clause-answered : goal.returns-clause-answered
returns-clause-answered c = λ schema s base bs kept o rs site command keeps other.
    keeps_answered schema s base bs kept o rs keeps site command (no_restart command other)

pub returns-clause-refused : goal.returns-clause-refused
returns-clause-refused c = λ schema s base bs kept o rs site command refusal keeps.
    keeps_refused schema s base bs kept o rs keeps site command refusal

pub returns-clause-unsure : goal.returns-clause-unsure
returns-clause-unsure c = λ schema s base bs kept o rs site command stood keeps up.
    keeps_unsure schema s base bs kept o rs keeps site command stood up

pub returns-clause-still_down : goal.returns-clause-still_down
returns-clause-still_down c = λ schema s base bs kept o rs site command stood keeps.
    keeps_still_down schema s base bs kept o rs keeps site command stood

pub returns-clause-restarted : goal.returns-clause-restarted
returns-clause-restarted c = λ schema s base bs kept later o rs site command doubt keeps is.
    keeps_restarted schema s base bs kept o rs keeps site command later doubt is
