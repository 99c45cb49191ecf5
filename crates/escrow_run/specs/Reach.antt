-- The line that reaches for a value of a field: what it spells, and why it may end in no step (this project).
use Rattle.std.specs.Prelude.{◌≡◌, ℕ, List, [], ◌∷◌, codes, FitsSigned}
use Rattle.std.specs.Int.{w64}
use Rattle.std.specs.Fmt.{signed_decimal}
use Rattle.field_bounds.specs.Schema.{SchemaValue}
use Rattle.line_words.specs.Words.{line}
use Rattle.entry_text.specs.Spelling.{site_text, field_text}
use Rattle.entry_text.specs.Ranges.{SiteFits, FieldFits}
use Rattle.reaching_steps.specs.declared.fault.ReachFault.{ReachFault}
use Rattle.reaching_steps.specs.declared.fault.ReachFault.TheVariants.{NoSite, NoField, NotUp, InFlight, Unstated, Tightened, Numbers, Outside, NoMemory}
use Rattle.escrow_run.specs.declared.aim.Aim.{Aim}

-- ---- the line

-- The line that reaches for a value: the site that takes no part, the field, and the value that it is to come to.
abbrev pub reach_text : SchemaValue → Aim → List ℕ
reach_text schema aim =
    line (codes "reach" ∷ site_text aim.site ∷ field_text schema aim.field ∷ signed_decimal aim.target ∷ [])

-- The numbers of the site and of the field are u16, and the value is an i64.
abbrev pub AimFits : Aim → Type 0
AimFits aim = SiteFits aim.site × FieldFits aim.field × FitsSigned w64 aim.target

-- ---- why it isn't reached

-- The word for a fault. Want of memory has none, for it ends the run.
abbrev pub IsReason : ReachFault → List ℕ → Type 0
IsReason NoSite word = word ≡ codes "site"
IsReason NoField word = word ≡ codes "field"
IsReason (NotUp site) word = word ≡ codes "down"
IsReason (InFlight from) word = word ≡ codes "flight"
IsReason (Unstated to) word = word ≡ codes "unstated"
IsReason Tightened word = word ≡ codes "tightened"
IsReason (Numbers site) word = word ≡ codes "numbers"
IsReason (Outside lo hi) word = word ≡ codes "outside"
IsReason NoMemory word = ⊥
