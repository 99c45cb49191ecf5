-- The running totals of a judge, and what they are over a front of a trace, the newest entry first (this project).
use Rattle.std.specs.Prelude.{◌≡◌, ℕ, ◌+◌, ◌-◌, ◌*◌, ◌<◌, ◌≤◌, max, unsigned_abs, sum_by, Bool, true, false, [], List, ◌∷◌, length, reverse, Option, Some, None}
use Rattle.field_bounds.specs.declared.kind.Kind.{Kind}
use Rattle.field_bounds.specs.declared.id.TxnId.{TxnId}
use Rattle.field_bounds.specs.declared.effect.Effect.{Effect}
use Rattle.field_bounds.specs.declared.effect.Effect.TheVariants.{Begins, Grants, Commits, Aborts, Gives, Accepts, Stops}
use Rattle.field_bounds.specs.declared.entry.Escrow.{Escrow as EscrowOf}
use Rattle.field_bounds.specs.declared.entry.Reply.{Reply}
use Rattle.field_bounds.specs.declared.entry.Entry.{Entry}
use Rattle.field_bounds.specs.Kind.{other, kind_of}
use Rattle.field_bounds.specs.Schema.{SchemaValue}
use Rattle.field_bounds.specs.Effects.{Base, fresh, is_begun, is_open, open_txns, escrows_of, takes, total_given, total_accepted, cut, share, held_rights, says_doubt_kept, effect_by, effect_of, effects}
use Rattle.field_bounds.specs.Owed.{Place, place, is_up, epoch_of, count_since, is_begun_reply, is_still_down, is_unsure}
use Rattle.field_bounds.specs.Shape.{answered, restarted, in_doubt, stays_down, refused, shape}
use Rattle.central_machine.specs.declared.numbers.Numbers.{Numbers}
use Rattle.central_machine.specs.declared.site_totals.SiteTotals.{SiteTotals}
use Rattle.central_machine.specs.SparseTotals.{told, has_spot, IsTold}
use Rattle.central_machine.specs.FieldAmounts.{amount, has_slot, IsPut, capped_sum}
use Rattle.central_machine.specs.Open.{txns_of, escrows_at, all_escrows, IsOpened, IsAdded, IsClosed}

-- ---- the numbers of one site

-- To which kind rights go when a transaction ends.
abbrev pub kind_after : Bool → Kind → Kind
kind_after true k = other k
kind_after false k = k

-- What escrows take of the rights of a kind on a field.
abbrev pub sizes_taken : ℕ → Kind → List EscrowOf → ℕ
sizes_taken f k escrows = sum_by (takes f k) escrows

-- The place of a site and a field in a ledger.
abbrev pub slot_at : ℕ → ℕ → ℕ → ℕ
slot_at stride r f = r * stride + f

-- The numbers are those of what took effect.
pub record Describes (schema : SchemaValue) (base : Base) (es : List Effect) (n : Numbers) : Type 0 where
  pub stride : n.stride ≡ length schema.fields
  pub free_in : (f : ℕ) → f < length schema.fields → has_slot n.free f ≡ true
  pub held_in : (f : ℕ) → f < length schema.fields → has_slot n.held f ≡ true
  pub cut_in : (f : ℕ) → f < length schema.fields → has_slot n.cut f ≡ true
  pub given_in : (r f : ℕ) → r < schema.sites → f < length schema.fields → has_spot n.given (slot_at n.stride r f) ≡ true
  pub accepted_in : (r f : ℕ) → r < schema.sites → f < length schema.fields → has_spot n.accepted (slot_at n.stride r f) ≡ true
  pub free : (f : ℕ) (k : Kind) → f < length schema.fields → amount n.free f k ≡ share base f k es
  pub held : (f : ℕ) (k : Kind) → f < length schema.fields → amount n.held f k ≡ held_rights f k es
  pub cut : (f : ℕ) (k : Kind) → f < length schema.fields → amount n.cut f k ≡ cut base f k es
  pub given : (r f : ℕ) (k : Kind) → r < schema.sites → f < length schema.fields
      → told n.given (slot_at n.stride r f) k ≡ total_given base r f k es
  pub accepted : (r f : ℕ) (k : Kind) → r < schema.sites → f < length schema.fields
      → told n.accepted (slot_at n.stride r f) k ≡ total_accepted base r f k es
  pub txns : txns_of n.journal.rows.items ≡ reverse (open_txns es)
  pub escrows : (t : TxnId) → is_begun t es ≡ true → is_open t es ≡ true → escrows_at t n.journal.rows.items ≡ reverse (escrows_of t es)

-- The numbers fit.
pub record IsSmall (base : Base) (es : List Effect) : Type 0 where
  pub free : (f : ℕ) (k : Kind) → share base f k es ≤ 18446744073709551615
  pub held : (f : ℕ) (k : Kind) → held_rights f k es ≤ 18446744073709551615
  pub cut : (f : ℕ) (k : Kind) → cut base f k es ≤ 18446744073709551615
  pub given : (r f : ℕ) (k : Kind) → total_given base r f k es ≤ 18446744073709551615

-- ---- what one more effect does to the numbers

-- Nothing changed but the free and the held rights and the open transactions.
pub record KeepsLedgers (n m : Numbers) : Type 0 where
  pub stride : m.stride ≡ n.stride
  pub cut : m.cut ≡ n.cut
  pub given : m.given ≡ n.given
  pub accepted : m.accepted ≡ n.accepted

pub record Opens (n m : Numbers) (txn : TxnId) : Type 0 where
  pub open_rows : IsOpened n.journal.rows.items m.journal.rows.items txn
  pub free : m.free ≡ n.free
  pub held : m.held ≡ n.held
  pub rest : KeepsLedgers n m

pub record SetsAside (n m : Numbers) (txn : TxnId) (escrow : EscrowOf) : Type 0 where
  pub free : IsPut n.free m.free escrow.field.0 (kind_of escrow.change)
      (amount n.free escrow.field.0 (kind_of escrow.change) - unsigned_abs escrow.change)
  pub held : IsPut n.held m.held escrow.field.0 (kind_of escrow.change)
      (capped_sum (amount n.held escrow.field.0 (kind_of escrow.change) + unsigned_abs escrow.change))
  pub open_rows : IsAdded n.journal.rows.items m.journal.rows.items txn escrow
  pub rest : KeepsLedgers n m

pub record Ends (n m : Numbers) (txn : TxnId) (committed : Bool) : Type 0 where
  pub held : (f : ℕ) (k : Kind) → has_slot n.held f ≡ true
      → amount m.held f k ≡ amount n.held f k - sizes_taken f k (escrows_at txn n.journal.rows.items)
  pub free : (f : ℕ) (k : Kind) → has_slot n.free f ≡ true → amount n.free f k ≤ 18446744073709551615
      → amount m.free f k ≡ capped_sum (amount n.free f k + sizes_taken f (kind_after committed k) (escrows_at txn n.journal.rows.items))
  pub held_places : (g : ℕ) → has_slot m.held g ≡ has_slot n.held g
  pub free_places : (g : ℕ) → has_slot m.free g ≡ has_slot n.free g
  pub open_rows : IsClosed n.journal.rows.items m.journal.rows.items txn
  pub rest : KeepsLedgers n m

-- The escrows of all open transactions end, and nothing is open.
pub record StopsAll (n m : Numbers) : Type 0 where
  pub held : (f : ℕ) (k : Kind) → has_slot n.held f ≡ true
      → amount m.held f k ≡ amount n.held f k - sizes_taken f k (all_escrows n.journal.rows.items)
  pub free : (f : ℕ) (k : Kind) → has_slot n.free f ≡ true → amount n.free f k ≤ 18446744073709551615
      → amount m.free f k ≡ capped_sum (amount n.free f k + sizes_taken f k (all_escrows n.journal.rows.items))
  pub held_places : (g : ℕ) → has_slot m.held g ≡ has_slot n.held g
  pub free_places : (g : ℕ) → has_slot m.free g ≡ has_slot n.free g
  pub open_rows : m.journal.rows.items ≡ []
  pub rest : KeepsLedgers n m

-- Rights left: to a site, or for good.
pub record Leaves (n m : Numbers) (field : ℕ) (kind : Kind) (size : ℕ) : Type 0 where
  pub free : IsPut n.free m.free field kind (amount n.free field kind - size)
  pub stride : m.stride ≡ n.stride
  pub held : m.held ≡ n.held
  pub accepted : m.accepted ≡ n.accepted
  pub open_rows : m.journal ≡ n.journal

pub record GoesTo (n m : Numbers) (to field : ℕ) (kind : Kind) (size : ℕ) : Type 0 where
  pub left : Leaves n m field kind size
  pub given : IsTold n.given m.given (slot_at n.stride to field) kind (capped_sum (told n.given (slot_at n.stride to field) kind + size))
  pub cut : m.cut ≡ n.cut

pub record GoesForGood (n m : Numbers) (field : ℕ) (kind : Kind) (size : ℕ) : Type 0 where
  pub left : Leaves n m field kind size
  pub cut : IsPut n.cut m.cut field kind (capped_sum (amount n.cut field kind + size))
  pub given : m.given ≡ n.given

pub record TakesIn (n m : Numbers) (from field : ℕ) (kind : Kind) (total : ℕ) : Type 0 where
  pub free : IsPut n.free m.free field kind (capped_sum
      (amount n.free field kind + (total - told n.accepted (slot_at n.stride from field) kind)))
  pub accepted : IsTold n.accepted m.accepted (slot_at n.stride from field) kind
      (max total (told n.accepted (slot_at n.stride from field) kind))
  pub stride : m.stride ≡ n.stride
  pub held : m.held ≡ n.held
  pub cut : m.cut ≡ n.cut
  pub given : m.given ≡ n.given
  pub open_rows : m.journal ≡ n.journal

-- The numbers with one more effect.
abbrev pub Takes : Effect → Numbers → Numbers → Type 0
Takes (Begins txn) n m = Opens n m txn
Takes (Grants txn field change) n m = SetsAside n m txn (record { field = field; change = change })
Takes (Commits txn) n m = Ends n m txn true
Takes (Aborts txn) n m = Ends n m txn false
Takes (Gives None field kind size) n m = GoesForGood n m field.0 kind size
Takes (Gives (Some to) field kind size) n m = GoesTo n m to.0 field.0 kind size
Takes (Accepts from field kind total) n m = TakesIn n m from.0 field.0 kind total
Takes Stops n m = StopsAll n m

-- ---- what is in doubt at a site

-- What is in doubt after one more reply: nothing after a restart, and after a reply in doubt what its command would do.
abbrev pub doubt_after : Option Effect → Reply → Option Effect → Option Effect
doubt_after effect r before =
    elim (shape r) [ answered ↦ before | restarted _ _ ↦ None | in_doubt ↦ effect | stays_down ↦ before | refused _ ↦ before ]

-- What the next restart of a site settles.
abbrev pub doubt : Base → List Entry → Option Effect
doubt base [] = None
doubt base (e ∷ o) = doubt_after (effect_of base (effects base false o) e.command e.reply) e.reply (doubt base o)

-- What a restart puts into effect before it stops the site.
abbrev pub settled_effect : Bool → Option Effect → Option Effect
settled_effect true d = d
settled_effect false d = None

abbrev pub MayTake : Option Effect → Numbers → Numbers → Type 0
MayTake None n m = m ≡ n
MayTake (Some e) n m = Takes e n m

-- The numbers after one more reply, with this effect where it isn't in doubt.
abbrev pub NumbersAfter : Option Effect → Reply → Option Effect → Numbers → Numbers → Type 0
NumbersAfter effect r d n m =
    elim (shape r) [
      | answered ↦ MayTake effect n m
      | restarted _ found ↦ (mid : Numbers) × MayTake (settled_effect (says_doubt_kept found) d) n mid × MayTake effect mid m
      | in_doubt ↦ m ≡ n
      | stays_down ↦ MayTake effect n m
      | refused _ ↦ MayTake effect n m
    ]

-- ---- the totals

-- A site's totals are those of its entries.
pub record IsSite (schema : SchemaValue) (s : ℕ) (o : List Entry) (x : SiteTotals) : Type 0 where
  pub up : x.site_counts.up ≡ is_up (fresh schema s) o
  pub epoch : x.site_counts.epoch ≡ epoch_of (fresh schema s) o
  pub begun : x.site_counts.begun ≡ count_since is_begun_reply o
  pub still_down : x.site_counts.still_down ≡ count_since is_still_down o
  pub unsure : x.site_counts.unsure ≡ count_since is_unsure o
  pub numbers : Describes schema (fresh schema s) (effects (fresh schema s) false o) x.numbers
  pub doubt : x.doubt ≡ doubt (fresh schema s) o

-- The totals tell of a place: they are those of its entries.
abbrev pub TellsOf : SchemaValue → ℕ → SiteTotals → Place → Type 0
TellsOf schema s x at = (o : List Entry) × IsSite schema s o x × (at ≡ place schema s (fresh schema s) o)

-- A site's totals took an entry in, which puts this into effect.
pub record PutsIn (effect : Option Effect) (e : Entry) (x y : SiteTotals) : Type 0 where
  pub numbers : NumbersAfter effect e.reply x.doubt x.numbers y.numbers
  pub doubt : y.doubt ≡ doubt_after effect e.reply x.doubt
  pub up : (base : Base) (o : List Entry) → x.site_counts.up ≡ is_up base o → y.site_counts.up ≡ is_up base (e ∷ o)
  pub epoch : (base : Base) (o : List Entry) → x.site_counts.epoch ≡ epoch_of base o → y.site_counts.epoch ≡ epoch_of base (e ∷ o)
  pub begun : (o : List Entry) → length o < 18446744073709551615 → x.site_counts.begun ≡ count_since is_begun_reply o
      → y.site_counts.begun ≡ count_since is_begun_reply (e ∷ o)
  pub still_down : (o : List Entry) → length o < 18446744073709551615 → x.site_counts.still_down ≡ count_since is_still_down o
      → y.site_counts.still_down ≡ count_since is_still_down (e ∷ o)
  pub unsure : (o : List Entry) → length o < 18446744073709551615 → x.site_counts.unsure ≡ count_since is_unsure o
      → y.site_counts.unsure ≡ count_since is_unsure (e ∷ o)

-- A site's totals took an entry in.
abbrev pub GoesOn : Entry → SiteTotals → SiteTotals → Type 0
GoesOn e x y = PutsIn (effect_by (amount x.numbers.free) e.command e.reply) e x y
