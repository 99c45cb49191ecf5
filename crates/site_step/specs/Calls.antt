-- Calls of one site, one after another (this project).
use Rattle.std.specs.Prelude.{◌≡◌, ◌≢◌, List, [], ◌∷◌}
use Rattle.field_bounds.specs.declared.entry.Command.{Command}
use Rattle.field_bounds.specs.declared.entry.Reply.{Reply}
use Rattle.field_bounds.specs.declared.entry.Reply.TheVariants.{Unsure, StillDown}
use Rattle.site_step.specs.Site.{SiteValue, Applies}

-- A command with its reply.
abbrev pub Call : Type 0
Call = Command × Reply

-- The calls lead from one value of a site to a later one, the oldest call first.
abbrev pub Leads : SiteValue → List Call → SiteValue → Type 0
Leads before [] later = later ≡ before
Leads before (call ∷ calls) later = (next : SiteValue) × Applies before call.0 call.1 next × Leads next calls later

-- No answer is in doubt, and no restart failed.
abbrev pub IsSure : Reply → Type 0
IsSure reply = (reply ≢ Unsure) × (reply ≢ StillDown)

abbrev pub AreSure : List Call → Type 0
AreSure [] = Unit {0}
AreSure (call ∷ calls) = IsSure call.1 × AreSure calls
