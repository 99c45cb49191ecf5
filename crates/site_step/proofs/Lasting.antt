-- Over a medium that is known not to fail nothing is in doubt.
use Rattle.std.proofs.Common.{◌≡◌, List, ℕ, [], ◌∷◌, ◌∙◌, ◌+◌, refl, sym, subst, Bool, false, true, Option, None, Some}
use Rattle.std.specs.Prelude.{nat_le, if◌then◌else◌}
use Rattle.field_bounds.specs.declared.entry.Command.{Command}
use Rattle.field_bounds.specs.declared.entry.Command.TheVariants.{Restart}
use Rattle.field_bounds.specs.declared.entry.Last.{Last}
use Rattle.field_bounds.specs.declared.entry.Reply.{Reply}
use Rattle.field_bounds.specs.declared.entry.Reply.TheVariants.{StillDown, Refused, Restarted, Unsure}
use Rattle.field_bounds.specs.declared.entry.Refusal.{Refusal}
use Rattle.field_bounds.specs.declared.entry.Refusal.TheVariants.{NumbersFull}
use Rattle.field_bounds.specs.Owed.{Place, first, refusals, answer, max_epoch}
use Rattle.field_bounds.proofs.Refused.{is_restart}
use Rattle.kept_records.specs.declared.medium.Mishap.{Mishap}
use Rattle.kept_records.specs.declared.medium.Mishap.TheVariants.{Never}
use Rattle.kept_records.specs.declared.record.Record.{Record}
use Rattle.kept_records.specs.Stands.{greatest}
use Rattle.kept_state.specs.declared.luck.Luck.TheVariants.{Fine}
use Rattle.kept_state.specs.Doubt.{found_of}
use Rattle.kept_state.specs.Luck.{refused_or, owed_with}
use Rattle.site_step.specs.Site.{SiteValue, Holds, here, foretold_after, owed_under, Applies}
use Rattle.site_step.specs.Calls.{Call, Leads, IsSure, AreSure}

answer_is_sure : (at : Place) (c : Command) → is_restart c ≡ false → IsSure (answer at c)
answer_is_sure at Restart n = cc
answer_is_sure at c n = (λ h. cc, λ h. cc)

reply_is_sure : (refusal : Option Refusal) (r : Reply) → IsSure r → IsSure (refused_or refusal r)
reply_is_sure None r sure = sure
reply_is_sure (Some x) r sure = (λ h. cc, λ h. cc)

restarted : (full : Bool) (epoch : ℕ) (found : Last) → IsSure (if full then Refused NumbersFull else Restarted epoch found)
restarted true epoch found = (λ h. cc, λ h. cc)
restarted false epoch found = (λ h. cc, λ h. cc)

pub fine_is_sure : (at : Place) (epoch : ℕ) (found : Last) (c : Command) → IsSure (owed_with at epoch found c Fine)
fine_is_sure at epoch found Restart = restarted (nat_le max_epoch epoch) (epoch + 1) found
fine_is_sure at epoch found c = reply_is_sure (first (refusals at c)) (answer at c) (answer_is_sure at c refl)

pub never_under : (v : SiteValue) (rs : List Record) (rest : List ℕ) (c : Command)
    → owed_under v rs rest c Never ≡ owed_with (here v) (greatest rs) (found_of v.doubt rs) c Fine
never_under v rs rest Restart = refl
never_under v rs rest c = refl

-- one call
pub call_is_sure : (v w : SiteValue) (rs : List Record) (rest : List ℕ) (c : Command) (r : Reply) → Holds v.schema v.site.0 v.bytes rs rest
    → v.foretold ≡ Some Never → Applies v c r w → IsSure r
call_is_sure v w rs rest c r log known h =
    subst IsSure (sym (h.under rs rest Never log known ∙ never_under v rs rest c))
    (fine_is_sure (here v) (greatest rs) (found_of v.doubt rs) c)

stays : (r : Reply) (m : Option Mishap) → m ≡ Some Never → foretold_after r m ≡ Some Never
stays Unsure None is = is
stays Unsure (Some m) is = refl
stays StillDown None is = is
stays StillDown (Some m) is = refl
stays r m is = is

pub call_stays : (v w : SiteValue) (c : Command) (r : Reply) → v.foretold ≡ Some Never → Applies v c r w → w.foretold ≡ Some Never
call_stays v w c r known h = h.foretold ∙ stays r v.foretold known

-- any number of calls
pub calls_are_sure : (calls : List Call) (v w : SiteValue) (rs : List Record) (rest : List ℕ) → Holds v.schema v.site.0 v.bytes rs rest
    → v.foretold ≡ Some Never → Leads v calls w → AreSure calls
calls_are_sure [] v w rs rest log known leads = tt
calls_are_sure (call ∷ calls) v w rs rest log known leads =
    let logs = leads.1.logs rs rest log in (
      call_is_sure v leads.0 rs rest call.0 call.1 log known leads.1,
      calls_are_sure calls leads.0 w _ logs.rest logs.log (call_stays v leads.0 call.0 call.1 known leads.1) leads.2,
    )

pub calls_stay : (calls : List Call) (v w : SiteValue) → v.foretold ≡ Some Never → Leads v calls w → w.foretold ≡ Some Never
calls_stay [] v w known leads = rw leads known
calls_stay (call ∷ calls) v w known leads = calls_stay calls leads.0 w (call_stays v leads.0 call.0 call.1 known leads.1) leads.2
