-- What the ladder of refusals tells of a reply that fits.
use Rattle.std.proofs.Common.{◌≡◌, ◌≢◌, ℕ, ◌+◌, ◌<◌, ◌≤◌, ℤ, Bool, true, false, not, ◌&&◌, List, [], ◌∷◌, nat_le, refl, ap, inl, inr, Option, Some, None}
use Rattle.std.proofs.lemmas.Bool.{and_parts, eqb-true, eqb-false, ltb-false, not-false, leb-false}
use Rattle.std.specs.Prelude.{◌⊎◌, ◌==◌, MatchOption, if◌then◌else◌, length, unsigned_abs}
use Rattle.field_bounds.specs.declared.kind.Kind.{Kind}
use Rattle.field_bounds.specs.declared.id.FieldNo.{FieldNo}
use Rattle.field_bounds.specs.declared.id.SiteNo.{SiteNo}
use Rattle.field_bounds.specs.declared.id.TxnId.{TxnId}
use Rattle.field_bounds.specs.declared.entry.Statement.{Statement}
use Rattle.field_bounds.specs.declared.entry.Command.{Command}
use Rattle.field_bounds.specs.declared.entry.Reply.{Reply}
use Rattle.field_bounds.specs.declared.entry.Command.TheVariants.{Begin, Escrow, Commit, Abort, Give, Restate, Spare, Tighten, Accept, Read, Share, Restart}
use Rattle.field_bounds.specs.declared.entry.Reply.TheVariants.{Refused, Unsure}
use Rattle.field_bounds.specs.declared.entry.Refusal.{Refusal}
use Rattle.field_bounds.specs.Kind.{kind_of}
use Rattle.field_bounds.specs.Effects.{is_begun, is_open}
use Rattle.field_bounds.specs.Owed.{Place, Test, first, is_up, is_begun_reply, count_since, count_open, count_escrows, max_change, max_total, max_open, max_escrows, max_number, free, told_so_far, spare_of, gain_of, room, refusals, answer, AnswerFits}

-- no test of the list holds
abbrev pub NoneHolds : List Test → Type 0
NoneHolds [] = Unit {0}
NoneHolds (test ∷ rest) = (test.0 ≡ false) × NoneHolds rest

none_step : (b : Bool) (r : Refusal) (rest : List Test) → (if b then Some r else first rest) ≡ None → (first rest ≡ None → NoneHolds rest)
    → (b ≡ false) × NoneHolds rest
none_step true r rest h more = cc
none_step false r rest h more = (refl, more h)

pub none_holds : (tests : List Test) → first tests ≡ None → NoneHolds tests
none_holds [] h = tt
none_holds (test ∷ rest) h = none_step test.0 test.1 rest h (none_holds rest)

pub match_cases : (o : Option Refusal) (P : Type 0) (Q : Refusal → Type 0) → MatchOption o P Q → ((x : Refusal) × (o ≡ Some x) × Q x)
    ⊎ ((o ≡ None) × P)
match_cases None P Q h = inr (refl, h)
match_cases (Some x) P Q h = inl (x, refl, h)

pub begun_and_open : (b c : Bool) → not (b && c) ≡ false → (b ≡ true) × (c ≡ true)
begun_and_open b c h = and_parts b c (not-false _ h)

pub is_below : (m n : ℕ) → nat_le n m ≡ false → m < n
is_below m n h = leb-false n m h

-- ---- a command that isn't refused is met by a site that is up, a restart apart

abbrev pub is_restart : Command → Bool
is_restart Restart = true
is_restart command = false

pub up_there : (at : Place) (c : Command) → is_restart c ≡ false → first (refusals at c) ≡ None → is_up at.base at.entries ≡ true
up_there at Begin n h = not-false (is_up at.base at.entries) (assumption (none_holds (refusals at Begin) h))
up_there at (Escrow txn field change) n h = not-false (is_up at.base at.entries)
    (assumption (none_holds (refusals at (Escrow txn field change)) h))
up_there at (Commit txn) n h = not-false (is_up at.base at.entries) (assumption (none_holds (refusals at (Commit txn)) h))
up_there at (Abort txn) n h = not-false (is_up at.base at.entries) (assumption (none_holds (refusals at (Abort txn)) h))
up_there at (Give to field kind amount) n h = not-false (is_up at.base at.entries)
    (assumption (none_holds (refusals at (Give to field kind amount)) h))
up_there at (Restate to field kind) n h = not-false (is_up at.base at.entries)
    (assumption (none_holds (refusals at (Restate to field kind)) h))
up_there at (Spare to field kind want) n h = not-false (is_up at.base at.entries)
    (assumption (none_holds (refusals at (Spare to field kind want)) h))
up_there at (Tighten field kind amount) n h = not-false (is_up at.base at.entries)
    (assumption (none_holds (refusals at (Tighten field kind amount)) h))
up_there at (Accept told) n h = not-false (is_up at.base at.entries) (assumption (none_holds (refusals at (Accept told)) h))
up_there at (Read field) n h = not-false (is_up at.base at.entries) (assumption (none_holds (refusals at (Read field)) h))
up_there at (Share field) n h = not-false (is_up at.base at.entries) (assumption (none_holds (refusals at (Share field)) h))
up_there at Restart n h = cc

-- ---- a reply that is no refusal comes where no test holds, and is the answer where it isn't in doubt

abbrev pub is_refused : Reply → Bool
is_refused (Refused x) = true
is_refused r = false

abbrev pub is_plain : Reply → Bool
is_plain (Refused x) = false
is_plain Unsure = false
is_plain r = true

pub not_refused : (at : Place) (c : Command) (r : Reply) → AnswerFits at c r → is_refused r ≡ false → NoneHolds (refusals at c)
not_refused at c r fits plain =
    elim (match_cases (first (refusals at c)) _ _ fits) [
      | inl refused ↦ let yes : is_refused r ≡ true = ap is_refused refused.2 in cc
      | inr met ↦ none_holds (refusals at c) met.0
    ]

pub answered : (at : Place) (c : Command) (r : Reply) → AnswerFits at c r → is_plain r ≡ true → NoneHolds (refusals at c)
    × (r ≡ answer at c)
answered at c r fits plain =
    elim (match_cases (first (refusals at c)) _ _ fits) [
      | inl refused ↦ let not_so : is_plain r ≡ false = ap is_plain refused.2 in cc
      | inr met ↦ elim met.1 [
        | inl same ↦ (none_holds (refusals at c) met.0, same)
        | inr unsure ↦ let not_so : is_plain r ≡ false = ap is_plain unsure.0 in cc
      ]
    ]

-- ---- the rungs of the ladder, by name: what no refusal tells of each command

module _ (at : Place) where
  pub begin_is_one_of_few : NoneHolds (refusals at Begin) → count_open at.effects < max_open
  begin_is_one_of_few none = leb-false max_open (count_open at.effects) (assumption none)

  pub begin_has_a_number : NoneHolds (refusals at Begin) → count_since is_begun_reply at.entries < max_number
  begin_has_a_number none = leb-false max_number (count_since is_begun_reply at.entries) (assumption none)

  module _ (txn : TxnId) (field : FieldNo) (change : ℤ) (none : NoneHolds (refusals at (Escrow txn field change))) where
    pub escrow_is_in_schema : field.0 < length at.schema.fields
    escrow_is_in_schema = leb-false (length at.schema.fields) field.0 (assumption none)

    pub escrow_is_opened : (is_begun txn at.effects ≡ true) × (is_open txn at.effects ≡ true)
    escrow_is_opened = begun_and_open (is_begun txn at.effects) (is_open txn at.effects) (assumption none)

    pub escrow_is_some : unsigned_abs change ≢ 0
    escrow_is_some = eqb-false (unsigned_abs change) 0 (assumption none)

    pub escrow_is_small : unsigned_abs change ≤ max_change
    escrow_is_small = ltb-false max_change (unsigned_abs change) (assumption none)

    pub escrow_is_enough : unsigned_abs change ≤ free at field (kind_of change)
    escrow_is_enough = ltb-false (free at field (kind_of change)) (unsigned_abs change) (assumption none)

    pub escrow_is_one_of_few : count_escrows txn at.effects < max_escrows
    escrow_is_one_of_few = leb-false max_escrows (count_escrows txn at.effects) (assumption none)

  pub commit_is_opened : (txn : TxnId) → NoneHolds (refusals at (Commit txn)) → (is_begun txn at.effects ≡ true)
      × (is_open txn at.effects ≡ true)
  commit_is_opened txn none = begun_and_open (is_begun txn at.effects) (is_open txn at.effects) (assumption none)

  pub abort_is_opened : (txn : TxnId) → NoneHolds (refusals at (Abort txn)) → (is_begun txn at.effects ≡ true)
      × (is_open txn at.effects ≡ true)
  abort_is_opened txn none = begun_and_open (is_begun txn at.effects) (is_open txn at.effects) (assumption none)

  module _ (to : SiteNo) (field : FieldNo) (kind : Kind) (amount : ℕ) (none : NoneHolds (refusals at (Give to field kind amount))) where
    pub give_is_to_a_site : to.0 < at.schema.sites
    give_is_to_a_site = leb-false at.schema.sites to.0 (assumption none)

    pub give_is_in_schema : field.0 < length at.schema.fields
    give_is_in_schema = leb-false (length at.schema.fields) field.0 (assumption none)

    pub give_is_some : amount ≢ 0
    give_is_some = eqb-false amount 0 (assumption none)

    pub give_is_enough : amount ≤ free at field kind
    give_is_enough = ltb-false (free at field kind) amount (assumption none)

    pub give_is_to_another : to.0 ≢ at.site
    give_is_to_another = eqb-false to.0 at.site (assumption none)

    pub give_has_room : told_so_far at to field kind + amount ≤ max_total
    give_has_room = ltb-false max_total (told_so_far at to field kind + amount) (assumption none)

  pub restate_is_to_a_site : (to : SiteNo) (field : FieldNo) (kind : Kind) → NoneHolds (refusals at (Restate to field kind))
      → to.0 < at.schema.sites
  restate_is_to_a_site to field kind none = leb-false at.schema.sites to.0 (assumption none)

  module _ (to : SiteNo) (field : FieldNo) (kind : Kind) (want : ℕ) (none : NoneHolds (refusals at (Spare to field kind want))) where
    pub spare_is_to_a_site : to.0 < at.schema.sites
    spare_is_to_a_site = leb-false at.schema.sites to.0 (assumption none)

    pub spare_is_in_schema : field.0 < length at.schema.fields
    spare_is_in_schema = leb-false (length at.schema.fields) field.0 (assumption none)

    pub spare_is_some : want ≢ 0
    spare_is_some = eqb-false want 0 (assumption none)

    pub spare_is_small : want ≤ max_change
    spare_is_small = ltb-false max_change want (assumption none)

    pub spare_has_a_share : free at field kind ≢ 0
    spare_has_a_share = eqb-false (free at field kind) 0 (assumption none)

    pub spare_is_to_another : to.0 ≢ at.site
    spare_is_to_another = eqb-false to.0 at.site (assumption none)

    pub spare_has_room : told_so_far at to field kind + spare_of at field kind want ≤ max_total
    spare_has_room = ltb-false max_total (told_so_far at to field kind + spare_of at field kind want) (assumption none)

  module _ (field : FieldNo) (kind : Kind) (amount : ℕ) (none : NoneHolds (refusals at (Tighten field kind amount))) where
    pub tighten_is_in_schema : field.0 < length at.schema.fields
    tighten_is_in_schema = leb-false (length at.schema.fields) field.0 (assumption none)

    pub tighten_is_some : amount ≢ 0
    tighten_is_some = eqb-false amount 0 (assumption none)

    pub tighten_is_enough : amount ≤ free at field kind
    tighten_is_enough = ltb-false (free at field kind) amount (assumption none)

  module _ (told : Statement) (none : NoneHolds (refusals at (Accept told))) where
    pub accept_is_from_a_site : told.from.0 < at.schema.sites
    accept_is_from_a_site = leb-false at.schema.sites told.from.0 (assumption none)

    pub accept_is_in_schema : told.field.0 < length at.schema.fields
    accept_is_in_schema = leb-false (length at.schema.fields) told.field.0 (assumption none)

    pub accept_is_some : told.total ≢ 0
    accept_is_some = eqb-false told.total 0 (assumption none)

    pub accept_is_small : told.total ≤ max_total
    accept_is_small = ltb-false max_total told.total (assumption none)

    pub accept_is_from_another : told.from.0 ≢ at.site
    accept_is_from_another = eqb-false told.from.0 at.site (assumption none)

    pub accept_is_mine : told.to.0 ≡ at.site
    accept_is_mine = eqb-true told.to.0 at.site (not-false (told.to.0 == at.site) (assumption none))

    pub accept_has_room : gain_of at told.from told.field told.kind told.total ≤ room at told.field
    accept_has_room = ltb-false (room at told.field) (gain_of at told.from told.field told.kind told.total) (assumption none)
