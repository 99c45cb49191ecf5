-- Where a site stands on one field by what took effect there (this project).
use Rattle.std.specs.Prelude.{◌≡◌, ℕ, ◌+◌, ◌*◌, ◌≤◌, Bool, true, ◌&&◌, List, [], ◌∷◌, ◌++◌, length, reverse, if◌then◌else◌, Option, Some, None}
use Rattle.field_bounds.specs.declared.kind.Kind.{Kind}
use Rattle.field_bounds.specs.declared.kind.Kind.TheVariants.{Lower, Raise}
use Rattle.field_bounds.specs.declared.id.SiteNo.{SiteNo}
use Rattle.field_bounds.specs.declared.id.TxnId.{TxnId}
use Rattle.field_bounds.specs.declared.effect.Effect.{Effect}
use Rattle.field_bounds.specs.Kind.{same_kind}
use Rattle.field_bounds.specs.Schema.{SchemaValue}
use Rattle.field_bounds.specs.Effects.{Base, fresh, same_txn, is_committed, is_open, open_txns, granted_sizes, gifts, total_accepted}
use Rattle.field_bounds.specs.Lawful.{IsLawful}
use Rattle.reaching_steps.specs.declared.standing.Held.{Held}
use Rattle.reaching_steps.specs.declared.standing.FieldHoldings.{FieldHoldings}

-- Whether a transaction is this one, or any where none is named.
abbrev pub is_of : Option TxnId → TxnId → Bool
is_of None id = true
is_of (Some txn) id = same_txn id txn

-- What a row holds of a kind.
abbrev pub size_in : Kind → Held → ℕ
size_in Lower row = row.lower
size_in Raise row = row.raise

-- The same, where its transaction counts.
abbrev pub counted_of : (TxnId → Bool) → Kind → Held → ℕ
counted_of q k row = if q row.txn then size_in k row else 0

-- What the transactions that count hold of a kind.
abbrev pub held_sizes : (TxnId → Bool) → Kind → List Held → ℕ
held_sizes q k [] = 0
held_sizes q k (row ∷ held) = counted_of q k row + held_sizes q k held

-- Where it fits, a transaction holds so much more of a kind.
unfoldable pub Grows : TxnId → Kind → ℕ → List Held → List Held → Type 0
Grows txn kind size held more =
    held_sizes (λ _. true) kind held + size ≤ 340282366920938463463374607431768211455
    → (q : TxnId → Bool) (k : Kind) → held_sizes q k more ≡ held_sizes q k held + (if same_kind kind k && q txn then size else 0)

-- One effect more, where it counts.
abbrev pub pushed : Bool → List Effect → Effect → List Effect
pushed counted es e = if counted then es ++ e ∷ [] else es

-- What is kept tells of field f what these effects do: which transactions are open, what they hold, by how much the
-- committed ones have raised the field and lowered it, and what was given and accepted.
-- The sums are of one escrow of at most 2^63 an effect.
pub record Tells (f : ℕ) (kept : FieldHoldings) (es : List Effect) : Type 0 where
  pub ids : reverse kept.txns.items ≡ open_txns es
  pub held : (q : TxnId → Bool) (k : Kind) → held_sizes q k kept.held.items ≡ granted_sizes (λ id. is_open id es && q id) f k es
  pub raised : kept.raised ≡ granted_sizes (λ id. is_committed id es) f Raise es
  pub lowered : kept.lowered ≡ granted_sizes (λ id. is_committed id es) f Lower es
  pub given : (p : Option SiteNo → Bool) (k : Kind) → gifts p f k kept.gifts.items ≡ gifts p f k es
  pub accepted : (schema : SchemaValue) (s from : ℕ) (k : Kind) →
      total_accepted (fresh schema s) from f k kept.gifts.items ≡ total_accepted (fresh schema s) from f k es
  pub few : kept.raised + kept.lowered + held_sizes (λ _. true) Raise kept.held.items + held_sizes (λ _. true) Lower kept.held.items
      ≤ length es * 9223372036854775808
  pub short : length es ≤ 18446744073709551615

-- It does so of as many effects as a list can have.
unfoldable pub Stands : ℕ → FieldHoldings → List Effect → Type 0
Stands f kept es = length es ≤ 18446744073709551615 → Tells f kept es

-- What is kept tells of an effect more.
unfoldable pub Notes : ℕ → FieldHoldings → Effect → FieldHoldings → Type 0
Notes f kept e more =
    (schema : SchemaValue) (base : Base) (es : List Effect) → IsLawful schema base (e ∷ es) → Stands f kept es → Stands f more (e ∷ es)
