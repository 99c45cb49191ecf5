-- Which effects may follow which at a site, so that none takes rights that aren't there.
-- Effects have the newest first, so that the rest of a list is what came before its head.
use Rattle.std.specs.Prelude.{◌≡◌, ℕ, ◌<◌, ◌≤◌, unsigned_abs, true, false, Option, Some, None, List, [], ◌∷◌, length}
use Rattle.field_bounds.specs.declared.kind.Kind.{Kind}
use Rattle.field_bounds.specs.declared.id.SiteNo.{SiteNo}
use Rattle.field_bounds.specs.declared.id.TxnId.{TxnId}
use Rattle.field_bounds.specs.declared.effect.Effect.{Effect}
use Rattle.field_bounds.specs.declared.effect.Effect.TheVariants.{Begins, Grants, Commits, Aborts, Gives, Accepts, Stops}
use Rattle.field_bounds.specs.Kind.{kind_of}
use Rattle.field_bounds.specs.Schema.{SchemaValue}
use Rattle.field_bounds.specs.Effects.{Base, is_begun, is_open, share}

-- What an escrow that is granted keeps to: the share covers it, and its transaction is open (this project).
pub record MayGrant (schema : SchemaValue) (base : Base) (es : List Effect) (txn : TxnId) (f : ℕ) (change : ℕ) (k : Kind) : Type 0 where
  pub in_schema : f < length schema.fields
  pub enough : change ≤ share base f k es
  pub begun : is_begun txn es ≡ true
  pub opened : is_open txn es ≡ true

-- What leaves goes to a site of the schema, or is given up for good (this project).
abbrev pub IsReceiver : SchemaValue → Option SiteNo → Type 0
IsReceiver schema None = Unit {0}
IsReceiver schema (Some site) = site.0 < schema.sites

-- What leaves keeps to: the share covers it (this project).
pub record MayGive (schema : SchemaValue) (base : Base) (es : List Effect) (to : Option SiteNo) (f : ℕ) (k : Kind)
    (amount : ℕ) : Type 0 where
  pub to_site : IsReceiver schema to
  pub in_schema : f < length schema.fields
  pub enough : amount ≤ share base f k es

-- What an acceptance keeps to (this project).
pub record MayAccept (schema : SchemaValue) (from f : ℕ) : Type 0 where
  pub from_site : from < schema.sites
  pub in_schema : f < length schema.fields

-- What may take effect after these effects (this project).
abbrev pub MayFollow : SchemaValue → Base → List Effect → Effect → Type 0
MayFollow schema base es (Begins txn) = is_begun txn es ≡ false
MayFollow schema base es (Grants txn field change) = MayGrant schema base es txn field.0 (unsigned_abs change) (kind_of change)
MayFollow schema base es (Commits txn) = (is_begun txn es ≡ true) × (is_open txn es ≡ true)
MayFollow schema base es (Aborts txn) = (is_begun txn es ≡ true) × (is_open txn es ≡ true)
MayFollow schema base es (Gives to field k amount) = MayGive schema base es to field.0 k amount
MayFollow schema base es (Accepts from field k total) = MayAccept schema from.0 field.0
MayFollow schema base es Stops = Unit {0}

-- Each effect was one that may follow those before it (this project).
abbrev pub IsLawful : SchemaValue → Base → List Effect → Type 0
IsLawful schema base [] = Unit {0}
IsLawful schema base (e ∷ es) = IsLawful schema base es × MayFollow schema base es e
