-- One trace of all sites, as a run of one central store.
-- A trace has the newest entry first, so that the rest of a list is the front before its head.
use Rattle.std.specs.Prelude.{◌≡◌, ℕ, ◌+◌, ◌-◌, ◌<◌, ◌≤◌, ◌==◌, ℤ, pos, ◌+ℤ◌, ◌-ℤ◌, ◌≤ℤ◌, unsigned_abs, Bool, false, ◌&&◌, ◌||◌, if◌then◌else◌, List, [], ◌∷◌, length, Option, None, Some}
use Rattle.field_bounds.specs.declared.kind.Kind.{Kind}
use Rattle.field_bounds.specs.declared.kind.Kind.TheVariants.{Lower, Raise}
use Rattle.field_bounds.specs.declared.id.FieldNo.{FieldNo}
use Rattle.field_bounds.specs.declared.id.TxnId.{TxnId}
use Rattle.field_bounds.specs.declared.entry.Command.{Command}
use Rattle.field_bounds.specs.declared.entry.Command.TheVariants.{Begin, Escrow, Commit, Abort, Give, Restate, Spare, Tighten, Accept, Read, Share, Restart}
use Rattle.field_bounds.specs.declared.entry.Reply.{Reply}
use Rattle.field_bounds.specs.declared.entry.Reply.TheVariants.{Granted, Tightened, Accepted, Between, Unsure, Refused}
use Rattle.field_bounds.specs.declared.entry.Refusal.TheVariants.{Short}
use Rattle.field_bounds.specs.declared.entry.Entry.{Entry}
use Rattle.field_bounds.specs.declared.effect.Effect.{Effect}
use Rattle.field_bounds.specs.Kind.{same_kind, kind_of}
use Rattle.field_bounds.specs.Schema.{SchemaValue}
use Rattle.field_bounds.specs.Parts.{field_at, sum_below}
use Rattle.field_bounds.specs.Effects.{fresh, is_committed, is_open, total_given, cut, total_accepted, share, effects}
use Rattle.field_bounds.specs.Owed.{IsRun}
use Rattle.field_bounds.specs.Statements.{IsIssued}

-- ---- the entries of one site, and the fate of its transactions in the trace

-- The entries of site s, in their order (this project).
abbrev pub own : ℕ → List Entry → List Entry
own s [] = []
own s (e ∷ t) = if e.site.0 == s then e ∷ own s t else own s t

-- Each entry is of site s (this project).
abbrev pub AreOf : ℕ → List Entry → Type 0
AreOf s [] = Unit {0}
AreOf s (e ∷ t) = (e.site.0 ≡ s) × AreOf s t

-- What took effect at a site over the whole trace, on its fresh base (this project).
abbrev pub at_site : SchemaValue → List Entry → ℕ → List Effect
at_site schema t s = effects (fresh schema s) false (own s t)

-- Whether a transaction of site s is committed in the trace (O'Neil 1986).
abbrev pub is_committed_in : SchemaValue → List Entry → ℕ → TxnId → Bool
is_committed_in schema t s txn = is_committed txn (at_site schema t s)

-- Whether a transaction of site s is open in the trace (O'Neil 1986).
abbrev pub is_open_in : SchemaValue → List Entry → ℕ → TxnId → Bool
is_open_in schema t s txn = is_open txn (at_site schema t s)

-- ---- sums over the trace

-- The escrow that an entry grants: of which transaction, on which field, and its change (this project).
abbrev pub granted : Command → Reply → Option (TxnId × FieldNo × ℤ)
granted Begin reply = None
granted (Escrow txn field change) Granted = Some (txn, field, change)
granted (Escrow txn field change) reply = None
granted (Commit txn) reply = None
granted (Abort txn) reply = None
granted (Give to field kind amount) reply = None
granted (Restate to field kind) reply = None
granted (Spare to field kind want) reply = None
granted (Tighten field kind amount) reply = None
granted (Accept told) reply = None
granted (Read field) reply = None
granted (Share field) reply = None
granted Restart reply = None

-- Its size, if it is on field f, of kind k, and of a transaction that passes (this project).
abbrev pub size_of : (ℕ → TxnId → Bool) → ℕ → Kind → ℕ → Command → Reply → ℕ
size_of p f k s command reply =
    elim (granted command reply) [
      | None ↦ 0
      | Some e ↦ if (e.1.0 == f) && same_kind (kind_of e.2) k && p s e.0 then unsigned_abs e.2 else 0
    ]

-- The sizes of all such escrows of the trace, added up (this project).
abbrev pub sizes : (ℕ → TxnId → Bool) → ℕ → Kind → List Entry → ℕ
sizes p f k [] = 0
sizes p f k (e ∷ t) = size_of p f k e.site.0 e.command e.reply + sizes p f k t

-- The change of an entry's escrow, if it is on field f and of a transaction that passes (this project).
abbrev pub change_of : (ℕ → TxnId → Bool) → ℕ → ℕ → Command → Reply → ℤ
change_of p f s command reply =
    elim (granted command reply) [ None ↦ pos 0 | Some e ↦ if (e.1.0 == f) && p s e.0 then e.2 else pos 0 ]

-- The changes of all such escrows of the trace, added up (this project).
abbrev pub changes : (ℕ → TxnId → Bool) → ℕ → List Entry → ℤ
changes p f [] = pos 0
changes p f (e ∷ t) = change_of p f e.site.0 e.command e.reply +ℤ changes p f t

-- ---- committed value, infimum, supremum and outcomes

-- The committed value: the start value and the changes of all escrows whose transaction is committed (O'Neil 1986).
abbrev pub committed_value : SchemaValue → List Entry → ℕ → ℤ
committed_value schema t f = (field_at schema f).value +ℤ changes (is_committed_in schema t) f t

-- The sizes of all escrows of a kind whose transaction is open (O'Neil 1986; each by itself: this project).
abbrev pub open_sizes : SchemaValue → List Entry → ℕ → Kind → ℕ
open_sizes schema t f k = sizes (is_open_in schema t) f k t

-- The infimum: the committed value less all open lowerings (O'Neil 1986).
abbrev pub inf : SchemaValue → List Entry → ℕ → ℤ
inf schema t f = committed_value schema t f -ℤ pos (open_sizes schema t f Lower)

-- The supremum: the committed value and all open raisings (O'Neil 1986).
abbrev pub sup : SchemaValue → List Entry → ℕ → ℤ
sup schema t f = committed_value schema t f +ℤ pos (open_sizes schema t f Raise)

-- Whether a transaction is committed once the chosen open ones are, and the other open ones aborted (O'Neil 1986).
abbrev pub is_committed_by : SchemaValue → List Entry → (ℕ → TxnId → Bool) → ℕ → TxnId → Bool
is_committed_by schema t chosen s txn = is_committed_in schema t s txn || (is_open_in schema t s txn && chosen s txn)

-- The outcome of a choice: the committed value once the open transactions have ended by it (O'Neil 1986).
abbrev pub outcome : SchemaValue → List Entry → ℕ → (ℕ → TxnId → Bool) → ℤ
outcome schema t f chosen = (field_at schema f).value +ℤ changes (is_committed_by schema t chosen) f t

-- ---- the bounds of a field in a trace

-- What all sites have given up for good, of a kind on a field, added up (this project).
abbrev pub cuts : SchemaValue → List Entry → ℕ → Kind → ℕ
cuts schema t f k = sum_below schema.sites (λ s. cut (fresh schema s) f k (at_site schema t s))

-- The floor of a field after a trace: that of the schema, raised by all rights to lower that were given up (this project).
abbrev pub floor_in : SchemaValue → List Entry → ℕ → ℤ
floor_in schema t f = (field_at schema f).floor +ℤ pos (cuts schema t f Lower)

-- The ceiling of a field after a trace: that of the schema, lowered by all rights to raise that were given up (this project).
abbrev pub ceiling_in : SchemaValue → List Entry → ℕ → ℤ
ceiling_in schema t f = (field_at schema f).ceiling -ℤ pos (cuts schema t f Raise)

-- Whichever open transactions are committed and whichever aborted, each field's value is left within its bounds: no
-- outcome lies below the floor or above the ceiling (O'Neil 1986).
abbrev pub OutcomesAreBounded : SchemaValue → List Entry → Type 0
OutcomesAreBounded schema t =
    (f : ℕ) (chosen : ℕ → TxnId → Bool) →
    (floor_in schema t f ≤ℤ outcome schema t f chosen) × (outcome schema t f chosen ≤ℤ ceiling_in schema t f)

-- ---- the rules of one entry, over the front before it

-- One central store may grant a lowering that leaves the infimum at the floor or above, and a raising that leaves
-- the supremum at the ceiling or below (O'Neil 1986).
abbrev pub MayBeGranted : SchemaValue → List Entry → ℕ → Kind → ℕ → Type 0
MayBeGranted schema t f Lower n = floor_in schema t f ≤ℤ (inf schema t f -ℤ pos n)
MayBeGranted schema t f Raise n = (sup schema t f +ℤ pos n) ≤ℤ ceiling_in schema t f

-- An escrow on a field of the schema is granted, and rights on one are given up, only where one central store may grant a
-- change of that size (this project).
abbrev pub GrantRule : SchemaValue → List Entry → Command → Reply → Type 0
GrantRule schema t Begin reply = Unit {0}
GrantRule schema t (Escrow txn field change) Granted =
    field.0 < length schema.fields → MayBeGranted schema t field.0 (kind_of change) (unsigned_abs change)
GrantRule schema t (Escrow txn field change) reply = Unit {0}
GrantRule schema t (Commit txn) reply = Unit {0}
GrantRule schema t (Abort txn) reply = Unit {0}
GrantRule schema t (Give to field kind amount) reply = Unit {0}
GrantRule schema t (Restate to field kind) reply = Unit {0}
GrantRule schema t (Spare to field kind want) reply = Unit {0}
GrantRule schema t (Tighten field kind amount) (Tightened total) =
    field.0 < length schema.fields → MayBeGranted schema t field.0 kind amount
GrantRule schema t (Tighten field kind amount) reply = Unit {0}
GrantRule schema t (Accept told) reply = Unit {0}
GrantRule schema t (Read field) reply = Unit {0}
GrantRule schema t (Share field) reply = Unit {0}
GrantRule schema t Restart reply = Unit {0}

-- Of a field of the schema, the number told is the site's share of the kind, and less than was asked (this project).
abbrev pub IsShortage : SchemaValue → List Entry → ℕ → ℕ → Kind → ℕ → ℕ → Type 0
IsShortage schema t s f k asked told =
    f < length schema.fields → (told ≡ share (fresh schema s) f k (at_site schema t s)) × (told < asked)

-- An escrow, a gift, a spare or a tightening that is refused as short is told such a shortage (this project).
abbrev pub ShortageRule : SchemaValue → List Entry → ℕ → Command → Reply → Type 0
ShortageRule schema t s Begin reply = Unit {0}
ShortageRule schema t s (Escrow txn field change) (Refused (Short told)) =
    IsShortage schema t s field.0 (kind_of change) (unsigned_abs change) told
ShortageRule schema t s (Escrow txn field change) reply = Unit {0}
ShortageRule schema t s (Commit txn) reply = Unit {0}
ShortageRule schema t s (Abort txn) reply = Unit {0}
ShortageRule schema t s (Give to field kind amount) (Refused (Short told)) = IsShortage schema t s field.0 kind amount told
ShortageRule schema t s (Give to field kind amount) reply = Unit {0}
ShortageRule schema t s (Restate to field kind) reply = Unit {0}
ShortageRule schema t s (Spare to field kind want) (Refused (Short told)) = IsShortage schema t s field.0 kind want told
ShortageRule schema t s (Spare to field kind want) reply = Unit {0}
ShortageRule schema t s (Tighten field kind amount) (Refused (Short told)) = IsShortage schema t s field.0 kind amount told
ShortageRule schema t s (Tighten field kind amount) reply = Unit {0}
ShortageRule schema t s (Accept told) reply = Unit {0}
ShortageRule schema t s (Read field) reply = Unit {0}
ShortageRule schema t s (Share field) reply = Unit {0}
ShortageRule schema t s Restart reply = Unit {0}

-- The interval that a read tells of a field of the schema holds the committed value (this project).
abbrev pub IntervalRule : SchemaValue → List Entry → Command → Reply → Type 0
IntervalRule schema t Begin reply = Unit {0}
IntervalRule schema t (Escrow txn field change) reply = Unit {0}
IntervalRule schema t (Commit txn) reply = Unit {0}
IntervalRule schema t (Abort txn) reply = Unit {0}
IntervalRule schema t (Give to field kind amount) reply = Unit {0}
IntervalRule schema t (Restate to field kind) reply = Unit {0}
IntervalRule schema t (Spare to field kind want) reply = Unit {0}
IntervalRule schema t (Tighten field kind amount) reply = Unit {0}
IntervalRule schema t (Accept told) reply = Unit {0}
IntervalRule schema t (Read field) (Between lo hi) =
    field.0 < length schema.fields → (lo ≤ℤ committed_value schema t field.0) × (committed_value schema t field.0 ≤ℤ hi)
IntervalRule schema t (Read field) reply = Unit {0}
IntervalRule schema t (Share field) reply = Unit {0}
IntervalRule schema t Restart reply = Unit {0}

-- A statement that is accepted, or whose acceptance is in doubt, was issued before (this project).
abbrev pub StatementRule : List Entry → Command → Reply → Type 0
StatementRule t Begin reply = Unit {0}
StatementRule t (Escrow txn field change) reply = Unit {0}
StatementRule t (Commit txn) reply = Unit {0}
StatementRule t (Abort txn) reply = Unit {0}
StatementRule t (Give to field kind amount) reply = Unit {0}
StatementRule t (Restate to field kind) reply = Unit {0}
StatementRule t (Spare to field kind want) reply = Unit {0}
StatementRule t (Tighten field kind amount) reply = Unit {0}
StatementRule t (Accept told) (Accepted gain) = IsIssued told t
StatementRule t (Accept told) Unsure = IsIssued told t
StatementRule t (Accept told) reply = Unit {0}
StatementRule t (Read field) reply = Unit {0}
StatementRule t (Share field) reply = Unit {0}
StatementRule t Restart reply = Unit {0}

-- An entry keeps the rules over the front before it, and its site is in the schema (this project).
pub record KeepsRules (schema : SchemaValue) (t : List Entry) (e : Entry) : Type 0 where
  pub site : e.site.0 < schema.sites
  pub grant : GrantRule schema t e.command e.reply
  pub shortage : ShortageRule schema t e.site.0 e.command e.reply
  pub interval : IntervalRule schema t e.command e.reply
  pub statement : StatementRule t e.command e.reply

-- A trace is a run of one central store: each entry keeps the rules over the front before it (this project).
abbrev pub IsCentral : SchemaValue → List Entry → Type 0
IsCentral schema [] = Unit {0}
IsCentral schema (e ∷ t) = IsCentral schema t × KeepsRules schema t e

-- ---- soundness

-- Each entry's site is in the schema (this project).
abbrev pub IsAtSites : SchemaValue → List Entry → Type 0
IsAtSites schema [] = Unit {0}
IsAtSites schema (e ∷ t) = IsAtSites schema t × (e.site.0 < schema.sites)

-- Each statement that is accepted, or whose acceptance is in doubt, was issued before (this project).
abbrev pub IsTold : List Entry → Type 0
IsTold [] = Unit {0}
IsTold (e ∷ t) = IsTold t × StatementRule t e.command e.reply

-- A trace is sound: each entry's site is in the schema, each statement that is taken in was issued before, and each reply
-- is owed after its own site's entries alone, on a fresh base (this project).
pub record IsSound (schema : SchemaValue) (t : List Entry) : Type 0 where
  pub sites : IsAtSites schema t
  pub statements : IsTold t
  pub runs : (s : ℕ) → s < schema.sites → IsRun schema s (fresh schema s) (own s t)

-- ---- rights in flight

-- The total that one site has given to another, of a kind on a field (Balegas and others 2015).
abbrev pub given_between : SchemaValue → List Entry → ℕ → Kind → ℕ → ℕ → ℕ
given_between schema t f k from to = total_given (fresh schema from) to f k (at_site schema t from)

-- The greatest total that one site has accepted from another (Balegas and others 2015).
abbrev pub accepted_between : SchemaValue → List Entry → ℕ → Kind → ℕ → ℕ → ℕ
accepted_between schema t f k from to = total_accepted (fresh schema to) from f k (at_site schema t to)

-- The rights in flight: what was given and isn't accepted yet, between any two sites, added up (this project).
abbrev pub in_flight : SchemaValue → List Entry → ℕ → Kind → ℕ
in_flight schema t f k =
    sum_below schema.sites (λ from. sum_below schema.sites
    (λ to. given_between schema t f k from to - accepted_between schema t f k from to))

-- ---- conservation

-- The shares of all sites of a kind on a field, added up (Balegas and others 2015).
abbrev pub shares : SchemaValue → List Entry → ℕ → Kind → ℕ
shares schema t f k = sum_below schema.sites (λ s. share (fresh schema s) f k (at_site schema t s))

-- Rights are conserved: the infimum lies above the trace's floor, and the supremum below its ceiling, by exactly the shares
-- of all sites and the rights in flight; and no site has accepted more from another than that gave it (Balegas and
-- others 2015 for the floor, this project for both, for open escrows and for what is in flight).
pub record IsConserved (schema : SchemaValue) (t : List Entry) : Type 0 where
  pub lowering : (f : ℕ) → inf schema t f ≡ (floor_in schema t f +ℤ pos (shares schema t f Lower + in_flight schema t f Lower))
  pub raising : (f : ℕ) → sup schema t f +ℤ pos (shares schema t f Raise + in_flight schema t f Raise) ≡ ceiling_in schema t f
  pub accepted : (f from to : ℕ) (k : Kind) → accepted_between schema t f k from to ≤ given_between schema t f k from to

-- Rights are conserved in every front of a trace, from the empty one to the whole one (this project).
abbrev pub IsConservedThroughout : SchemaValue → List Entry → Type 0
IsConservedThroughout schema [] = IsConserved schema []
IsConservedThroughout schema (e ∷ t) = IsConservedThroughout schema t × IsConserved schema (e ∷ t)
