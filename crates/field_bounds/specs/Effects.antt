-- What took effect at one site, and the sums over it: fates, ledgers and rights.
-- Lists of entries and of effects have the newest first, so that the rest of a list is what came before its head.
use Rattle.std.specs.Prelude.{ℕ, ◌+◌, ◌-◌, ◌/◌, ◌==◌, min, max, unsigned_abs, nat_lt, nat_le, Bool, true, false, not, Option, Some, None, ◌&&◌, ◌||◌, if◌then◌else◌, List, [], ◌∷◌, filter}
use Rattle.field_bounds.specs.declared.kind.Kind.{Kind}
use Rattle.field_bounds.specs.declared.id.SiteNo.{SiteNo}
use Rattle.field_bounds.specs.declared.id.FieldNo.{FieldNo}
use Rattle.field_bounds.specs.declared.id.TxnId.{TxnId}
use Rattle.field_bounds.specs.declared.effect.Effect.{Effect}
use Rattle.field_bounds.specs.declared.effect.Effect.TheVariants.{Begins, Grants, Commits, Aborts, Gives, Accepts, Stops}
use Rattle.field_bounds.specs.declared.entry.Escrow.{Escrow as EscrowOf}
use Rattle.field_bounds.specs.declared.entry.Command.{Command}
use Rattle.field_bounds.specs.declared.entry.Command.TheVariants.{Begin, Escrow, Commit, Abort, Give, Restate, Spare, Tighten, Accept, Read, Share, Restart}
use Rattle.field_bounds.specs.declared.entry.Reply.{Reply}
use Rattle.field_bounds.specs.declared.entry.Reply.TheVariants.{Begun, Granted, Committed, Aborted, Given, Spared, Tightened, Accepted, Restarted, Unsure}
use Rattle.field_bounds.specs.declared.entry.Last.{Last}
use Rattle.field_bounds.specs.declared.entry.Last.TheVariants.{Nothing, Kept, Lost}
use Rattle.field_bounds.specs.declared.entry.Entry.{Entry}
use Rattle.field_bounds.specs.Kind.{other, same_kind, kind_of}
use Rattle.field_bounds.specs.Schema.{SchemaValue}
use Rattle.field_bounds.specs.Parts.{part_of}
use Rattle.field_bounds.specs.Shape.{answered, restarted, in_doubt, stays_down, refused, shape}

-- What a site's history stands on: whether it is up, its epoch, its rights by field and kind, the cut, which is what it has
-- given up for good, by field and kind, and the totals that it has given to and accepted from each site, by site, field and
-- kind (this project).
pub record Base : Type 0 where
  pub up : Bool
  pub epoch : ℕ
  pub rights : ℕ → Kind → ℕ
  pub cut : ℕ → Kind → ℕ
  pub given : ℕ → ℕ → Kind → ℕ
  pub accepted : ℕ → ℕ → Kind → ℕ

-- The base of a site that has answered nothing yet: up, at epoch 0, with its parts, and nothing given up, given or accepted.
abbrev pub fresh : SchemaValue → ℕ → Base
fresh schema s = record { up = true; epoch = 0; rights = part_of schema s; cut = λ _ _. 0; given = λ _ _ _. 0; accepted = λ _ _ _. 0 }

-- Whether two ids name one transaction.
abbrev pub same_txn : TxnId → TxnId → Bool
same_txn a b = (a.epoch == b.epoch) && (a.number == b.number)

-- The second is of an earlier epoch than the first, or of its epoch with a number up to its own.
abbrev pub is_up_to : TxnId → TxnId → Bool
is_up_to latest txn = nat_lt txn.epoch latest.epoch || ((txn.epoch == latest.epoch) && nat_le txn.number latest.number)

-- ---- the fate of a transaction (O'Neil 1986: begun, and then committed, aborted or open)

abbrev pub is_begun : TxnId → List Effect → Bool
is_begun id [] = false
is_begun id (Begins txn ∷ es) = same_txn txn id || is_begun id es
is_begun id (_ ∷ es) = is_begun id es

abbrev pub is_committed : TxnId → List Effect → Bool
is_committed id [] = false
is_committed id (Commits txn ∷ es) = same_txn txn id || is_committed id es
is_committed id (_ ∷ es) = is_committed id es

-- It was told to abort, or the site stopped after its begin (this project for the stop).
abbrev pub is_dropped : TxnId → List Effect → Bool
is_dropped id [] = false
is_dropped id (Aborts txn ∷ es) = same_txn txn id || is_dropped id es
is_dropped id (Stops ∷ es) = is_begun id es || is_dropped id es
is_dropped id (_ ∷ es) = is_dropped id es

abbrev pub is_aborted : TxnId → List Effect → Bool
is_aborted id es = not (is_committed id es) && is_dropped id es

abbrev pub is_open : TxnId → List Effect → Bool
is_open id es = not (is_committed id es) && not (is_dropped id es)

-- The transactions begun, the newest first.
abbrev pub begun_txns : List Effect → List TxnId
begun_txns [] = []
begun_txns (Begins txn ∷ es) = txn ∷ begun_txns es
begun_txns (_ ∷ es) = begun_txns es

-- The begun transactions that are open.
abbrev pub open_txns : List Effect → List TxnId
open_txns es = filter (λ id. is_open id es) (begun_txns es)

-- The escrows granted to a transaction, the newest first (O'Neil 1986: each counts by itself).
abbrev pub escrows_of : TxnId → List Effect → List EscrowOf
escrows_of id [] = []
escrows_of id (Grants txn field change ∷ es) =
    if same_txn id txn then record { field = field; change = change } ∷ escrows_of id es else escrows_of id es
escrows_of id (_ ∷ es) = escrows_of id es

-- ---- sums

-- What an escrow takes of the rights of a kind on field f: its change without the sign, or nothing.
abbrev pub takes : ℕ → Kind → EscrowOf → ℕ
takes f k e = if (e.field.0 == f) && same_kind (kind_of e.change) k then unsigned_abs e.change else 0

-- The sizes of the granted escrows on field f, of kind k, whose transaction passes.
abbrev pub granted_sizes : (TxnId → Bool) → ℕ → Kind → List Effect → ℕ
granted_sizes p f k [] = 0
granted_sizes p f k (Grants txn field change ∷ es) =
    (if (field.0 == f) && same_kind (kind_of change) k && p txn then unsigned_abs change else 0) + granted_sizes p f k es
granted_sizes p f k (_ ∷ es) = granted_sizes p f k es

-- Whether what left went to site s: what left for good went to none.
abbrev pub is_to : ℕ → Option SiteNo → Bool
is_to s None = false
is_to s (Some site) = site.0 == s

-- Whether what left was given up for good.
abbrev pub is_for_good : Option SiteNo → Bool
is_for_good None = true
is_for_good (Some site) = false

-- The amounts of a kind on field f that left, to the receivers that pass.
abbrev pub gifts : (Option SiteNo → Bool) → ℕ → Kind → List Effect → ℕ
gifts p f k [] = 0
gifts p f k (Gives to field kind amount ∷ es) =
    (if (field.0 == f) && same_kind kind k && p to then amount else 0) + gifts p f k es
gifts p f k (_ ∷ es) = gifts p f k es

-- ---- ledgers (Balegas and others 2015: totals that only grow, merged by the greater)

-- The total given to a site.
abbrev pub total_given : Base → ℕ → ℕ → Kind → List Effect → ℕ
total_given base to f k es = base.given to f k + gifts (is_to to) f k es

-- The greatest total accepted from a site.
abbrev pub total_accepted : Base → ℕ → ℕ → Kind → List Effect → ℕ
total_accepted base from f k [] = base.accepted from f k
total_accepted base from f k (Accepts site field kind total ∷ es) =
    if (field.0 == f) && same_kind kind k && (site.0 == from)
    then max total (total_accepted base from f k es)
    else total_accepted base from f k es
total_accepted base from f k (_ ∷ es) = total_accepted base from f k es

-- What each accepted total had above those accepted before it from its site, added up.
abbrev pub gains : Base → ℕ → Kind → List Effect → ℕ
gains base f k [] = 0
gains base f k (Accepts site field kind total ∷ es) =
    (if (field.0 == f) && same_kind kind k then total - total_accepted base site.0 f k es else 0) + gains base f k es
gains base f k (_ ∷ es) = gains base f k es

-- The cut: what the site has given up for good (this project).
abbrev pub cut : Base → ℕ → Kind → List Effect → ℕ
cut base f k es = base.cut f k + gifts is_for_good f k es

-- ---- the rights of a site (Balegas and others 2015: what was gained less what was spent; this project for the two kinds)

-- What gave rights: the base, the escrows that were aborted, those of the other kind that were committed, and the gains.
abbrev pub rights_in : Base → ℕ → Kind → List Effect → ℕ
rights_in base f k es =
    base.rights f k
    + granted_sizes (λ id. is_aborted id es) f k es
    + granted_sizes (λ id. is_committed id es) f (other k) es
    + gains base f k es

-- What took rights: every escrow that was granted, and all that left.
abbrev pub rights_out : ℕ → Kind → List Effect → ℕ
rights_out f k es = granted_sizes (λ _. true) f k es + gifts (λ _. true) f k es

-- The share: the rights that are free.
abbrev pub share : Base → ℕ → Kind → List Effect → ℕ
share base f k es = rights_in base f k es - rights_out f k es

-- The rights that open transactions have set aside.
abbrev pub held_rights : ℕ → Kind → List Effect → ℕ
held_rights f k es = granted_sizes (λ id. is_open id es) f k es

abbrev pub own_rights : Base → ℕ → Kind → List Effect → ℕ
own_rights base f k es = share base f k es + held_rights f k es

-- ---- what took effect

-- What a site spares of its share where another wants some: all that is wanted, and at most half of the share, rounded up
-- (this project).
abbrev pub spare_amount : ℕ → ℕ → ℕ
spare_amount share want = min want ((share + 1) / 2)

-- What a command does where it takes effect, at shares by field and kind: with its answer, and in doubt where its answer may be
-- so. A spare that is in doubt has the amount that it would have been answered (this project).
abbrev pub effect_by : (ℕ → Kind → ℕ) → Command → Reply → Option Effect
effect_by shares Begin (Begun txn) = Some (Begins txn)
effect_by shares Begin reply = None
effect_by shares (Escrow txn field change) Granted = Some (Grants txn field change)
effect_by shares (Escrow txn field change) reply = None
effect_by shares (Commit txn) Committed = Some (Commits txn)
effect_by shares (Commit txn) Unsure = Some (Commits txn)
effect_by shares (Commit txn) reply = None
effect_by shares (Abort txn) Aborted = Some (Aborts txn)
effect_by shares (Abort txn) reply = None
effect_by shares (Give to field kind amount) (Given total) = Some (Gives (Some to) field kind amount)
effect_by shares (Give to field kind amount) Unsure = Some (Gives (Some to) field kind amount)
effect_by shares (Give to field kind amount) reply = None
effect_by shares (Restate to field kind) reply = None
effect_by shares (Spare to field kind want) (Spared amount total) = Some (Gives (Some to) field kind amount)
effect_by shares (Spare to field kind want) Unsure = Some (Gives (Some to) field kind (spare_amount (shares field.0 kind) want))
effect_by shares (Spare to field kind want) reply = None
effect_by shares (Tighten field kind amount) (Tightened total) = Some (Gives None field kind amount)
effect_by shares (Tighten field kind amount) Unsure = Some (Gives None field kind amount)
effect_by shares (Tighten field kind amount) reply = None
effect_by shares (Accept told) (Accepted gain) = Some (Accepts told.from told.field told.kind told.total)
effect_by shares (Accept told) Unsure = Some (Accepts told.from told.field told.kind told.total)
effect_by shares (Accept told) reply = None
effect_by shares (Read field) reply = None
effect_by shares (Share field) reply = None
effect_by shares Restart (Restarted epoch found) = Some Stops
effect_by shares Restart reply = None

-- The same behind these effects, by which the site has its shares.
abbrev pub effect_of : Base → List Effect → Command → Reply → Option Effect
effect_of base es command reply = effect_by (λ f k. share base f k es) command reply

-- On which field, of which kind and how much a spare wants.
abbrev pub wanted_by : Command → Option (FieldNo × Kind × ℕ)
wanted_by Begin = None
wanted_by (Escrow txn field change) = None
wanted_by (Commit txn) = None
wanted_by (Abort txn) = None
wanted_by (Give to field kind amount) = None
wanted_by (Restate to field kind) = None
wanted_by (Spare to field kind want) = Some (field, kind, want)
wanted_by (Tighten field kind amount) = None
wanted_by (Accept told) = None
wanted_by (Read field) = None
wanted_by (Share field) = None
wanted_by Restart = None

-- What is spared at shares where so much is wanted.
abbrev pub spared_at : (ℕ → Kind → ℕ) → Option (FieldNo × Kind × ℕ) → ℕ
spared_at shares None = 0
spared_at shares (Some wanted) = spare_amount (shares wanted.0.0 wanted.1) wanted.2

-- Whether what a reply answers counts: where it is in doubt, as it was kept, and always otherwise (this project).
abbrev pub counts : Bool → Reply → Bool
counts kept r = elim (shape r) [ answered ↦ true | restarted _ _ ↦ true | in_doubt ↦ kept | stays_down ↦ true | refused _ ↦ true ]

-- The effects with one more in front, if there is one and it counts.
abbrev pub with_effect : Bool → Option Effect → List Effect → List Effect
with_effect counted None es = es
with_effect counted (Some effect) es = if counted then effect ∷ es else es

-- The effects after a command that was answered; one in doubt took effect where it was kept (this project).
abbrev pub after : Base → Bool → Command → Reply → List Effect → List Effect
after base kept command reply es = with_effect (counts kept reply) (effect_of base es command reply) es

-- Whether a restart found that what was in doubt is kept.
abbrev pub says_doubt_kept : Last → Bool
says_doubt_kept Kept = true
says_doubt_kept Nothing = false
says_doubt_kept Lost = false

-- Whether what stands in doubt before this reply was kept, if what stands in doubt after it was.
abbrev pub doubt_kept_before : Bool → Reply → Bool
doubt_kept_before kept r =
    elim (shape r) [ answered ↦ kept | restarted _ found ↦ says_doubt_kept found | in_doubt ↦ kept | stays_down ↦ kept | refused _ ↦ kept ]

-- What took effect at a site; kept says whether the next restart, if any, finds that what is in doubt is kept.
abbrev pub effects : Base → Bool → List Entry → List Effect
effects base kept [] = []
effects base kept (e ∷ o) = after base kept e.command e.reply (effects base (doubt_kept_before kept e.reply) o)

-- Whether what stands in doubt at site s before these entries, the oldest first, was kept, as its next restart found.
abbrev pub doubt_kept_in : ℕ → List Entry → Bool
doubt_kept_in s [] = false
doubt_kept_in s (e ∷ later) = if e.site.0 == s then doubt_kept_before (doubt_kept_in s later) e.reply else doubt_kept_in s later
