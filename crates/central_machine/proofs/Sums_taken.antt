-- What one effect of a site does to the sums of the fields.
use Rattle.std.proofs.Common.{◌≡◌, ◌≢◌, ℕ, ◌+◌, ◌-◌, ◌<◌, ◌≤◌, true, ◌&&◌, eqb, List, ◌∷◌, length, refl, sym, ◌∙◌, ap, arith, subst, Option, Some, None}
use Rattle.std.proofs.lemmas.Int.{ints}
use Rattle.std.specs.Prelude.{unsigned_abs}
use Rattle.field_bounds.specs.declared.kind.Kind.{Kind}
use Rattle.field_bounds.specs.declared.kind.Kind.TheVariants.{Lower, Raise}
use Rattle.field_bounds.specs.declared.effect.Effect.{Effect}
use Rattle.field_bounds.specs.declared.effect.Effect.TheVariants.{Begins, Grants, Commits, Aborts, Gives, Accepts, Stops}
use Rattle.field_bounds.specs.declared.entry.Entry.{Entry}
use Rattle.field_bounds.specs.Kind.{other, kind_of, same_kind}
use Rattle.field_bounds.specs.Schema.{SchemaValue}
use Rattle.field_bounds.specs.Limits.{IsSchema}
use Rattle.field_bounds.specs.Effects.{Base, with_effect, held_rights}
use Rattle.field_bounds.specs.Central.{IsSound}
use Rattle.field_bounds.proofs.Lawful.{IsLawful}
use Rattle.field_bounds.proofs.Headline.{within_bounds}
use Rattle.central_machine.specs.declared.journal.OpenRow.{OpenRow}
use Rattle.central_machine.specs.declared.field_sums.FieldSums.{FieldSums}
use Rattle.central_machine.specs.FieldAmounts.{amount, has_slot, capped_sum}
use Rattle.central_machine.specs.Open.{all_escrows}
use Rattle.central_machine.specs.Sums.{AreSums, SettlesDoubt, Closes, SumsTake}
use Rattle.central_machine.proofs.Small.{all_narrow}
use Rattle.central_machine.proofs.Held.{all_held}
use Rattle.central_machine.proofs.Opened.{AreOpen, taken_at}
use Rattle.central_machine.proofs.Sums_put.{capped_there}
use Rattle.central_machine.proofs.Moves.{opened_by, closed_by, committed_by, given_up_by}
use Rattle.central_machine.proofs.Sums_more.{Moved}

-- what was in doubt and is kept commits, and gives up
abbrev pub committed_in_doubt : ℕ → Kind → List Effect → Option Effect → ℕ
committed_in_doubt f k es None = 0
committed_in_doubt f k es (Some d) = committed_by f k es d

abbrev pub given_in_doubt : ℕ → Kind → Option Effect → ℕ
given_in_doubt f k None = 0
given_in_doubt f k (Some d) = given_up_by f k d

pub record Settled (schema : SchemaValue) (n m : FieldSums) (committed given : ℕ → Kind → ℕ) : Type 0 where
  pub room_places : (g : ℕ) → has_slot m.room g ≡ has_slot n.room g
  pub cut_places : (g : ℕ) → has_slot m.cut g ≡ has_slot n.cut g
  pub aside_same : m.aside ≡ n.aside
  pub room : (f : ℕ) (k : Kind) → f < length schema.fields
      → amount m.room f k ≡ capped_sum (amount n.room f k + committed f (other k)) - committed f k
  pub cut : (f : ℕ) (k : Kind) → f < length schema.fields → amount m.cut f k ≡ capped_sum (amount n.cut f k + given f k)

module _ (schema : SchemaValue) (good : IsSchema schema) (t : List Entry) (sound : IsSound schema t)
    (n : FieldSums) (is : AreSums schema t n) where
  small_at : (f : ℕ) → f < length schema.fields → (amount n.room f Lower ≤ 2_000_000_000_000_000) × (amount n.room f Raise ≤ 2_000_000_000_000_000)
  small_at f l =
      let b = within_bounds schema good t sound f in
      let narrow = (all_narrow schema.fields good.each f).width in
      (omega (arith, ints, b.0, b.1, narrow, is.low f l), omega (arith, ints, b.0, b.1, narrow, is.high f l))

  pub room_small : (f : ℕ) (k : Kind) → f < length schema.fields → amount n.room f k ≤ 2_000_000_000_000_000
  room_small f k l = elim k as (λ j. amount n.room f j ≤ 2_000_000_000_000_000)
      [ Lower ↦ (small_at f l).0 | Raise ↦ (small_at f l).1 ]

  pub aside_small : (f : ℕ) (k : Kind) → f < length schema.fields → amount n.aside f k ≤ 2_000_000_000_000_000
  aside_small f k l =
      let b = within_bounds schema good t sound f in
      let narrow = (all_narrow schema.fields good.each f).width in
      elim k as (λ j. amount n.aside f j ≤ 2_000_000_000_000_000)
      [ Lower ↦ omega (arith, ints, b.0, b.1, narrow, is.aside f Lower l) | Raise ↦ omega (arith, ints, b.0, b.1, narrow, is.aside f Raise l) ]

  pub cut_fits : (f : ℕ) (k : Kind) → f < length schema.fields → amount n.cut f k ≤ 2_000_000_000_000_000
  cut_fits f k l =
      let b = within_bounds schema good t sound f in
      let narrow = (all_narrow schema.fields good.each f).width in
      elim k as (λ j. amount n.cut f j ≤ 2_000_000_000_000_000)
      [ Lower ↦ omega (arith, ints, b.0, b.1, narrow, is.cut f Lower l) | Raise ↦ omega (arith, ints, b.0, b.1, narrow, is.cut f Raise l) ]

  pub no_more : (a : ℕ) → a ≤ 2_000_000_000_000_000 → a ≡ capped_sum (a + 0) - 0
  no_more a h = omega (arith, h)

  pub no_cut : (a : ℕ) → a ≤ 2_000_000_000_000_000 → a ≡ capped_sum (a + 0)
  no_cut a h = omega (arith, h)

  none_less : (a : ℕ) → a ≡ a - 0
  none_less a = omega arith

  pub still : Moved schema n n (λ f k. 0) (λ f k. 0) (λ f k. 0) (λ f k. 0)
  still = record {
    room_places = λ g. refl;
    aside_places = λ g. refl;
    cut_places = λ g. refl;
    room = λ f k l. no_more (amount n.room f k) (room_small f k l);
    aside = λ f k l. no_more (amount n.aside f k) (aside_small f k l);
    cut = λ f k l. no_cut (amount n.cut f k) (cut_fits f k l);
  }

  unsettled : Settled schema n n (λ f k. 0) (λ f k. 0)
  unsettled = record {
    room_places = λ g. refl;
    cut_places = λ g. refl;
    aside_same = refl;
    room = λ f k l. no_more (amount n.room f k) (room_small f k l);
    cut = λ f k l. no_cut (amount n.cut f k) (cut_fits f k l);
  }

  module _ (base : Base) (es : List Effect) (rows : List OpenRow) (are : AreOpen es rows) where
    -- the sums move by what the effect moves
    pub moves_by : (d : Effect) (m : FieldSums) → d ≢ Stops → IsLawful schema base (d ∷ es) → SumsTake (Some d) rows n m
        → Moved schema n m (λ f k. opened_by f k d) (λ f k. closed_by f k es d)
        (λ f k. committed_by f k es d) (λ f k. given_up_by f k d)
    moves_by (Begins txn) m plain lawful took =
        subst (λ x. Moved schema n x (λ f k. 0) (λ f k. 0) (λ f k. 0) (λ f k. 0)) (sym took) still
    moves_by (Gives (Some to) field kind size) m plain lawful took =
        subst (λ x. Moved schema n x (λ f k. 0) (λ f k. 0) (λ f k. 0) (λ f k. 0)) (sym took) still
    moves_by (Accepts from field kind total) m plain lawful took =
        subst (λ x. Moved schema n x (λ f k. 0) (λ f k. 0) (λ f k. 0) (λ f k. 0)) (sym took) still
    moves_by Stops m plain lawful took = absurd (plain refl)
    moves_by (Commits txn) m plain lawful took =
        let taken = taken_at es rows are txn lawful.1.0 lawful.1.1 in
        record {
          room_places = λ g. ap (λ a. has_slot a g) took.closes.rest.room ∙ took.moves.places g;
          aside_places = λ g. took.closes.places g ∙ ap (λ a. has_slot a g) took.moves.aside_same;
          cut_places = λ g. ap (λ a. has_slot a g) (took.closes.rest.cut ∙ took.moves.cut_same);
          room = λ f k l.
              let fits = room_small f k l in
              ap (λ a. amount a f k) took.closes.rest.room ∙ took.moves.room f k (is.room_in f l) (omega (arith, fits))
              ∙ rw (taken f (other k), taken f k) refl;
          aside = λ f k l.
              let fits = aside_small f k l in
              let same = ap (λ a. amount a f k) took.moves.aside_same in
              omega (
                arith,
                fits,
                same,
                taken f k,
                took.closes.less f k (ap (λ a. has_slot a f) took.moves.aside_same ∙ is.aside_in f l),
              );
          cut = λ f k l. let fits = cut_fits f k l in
              ap (λ a. amount a f k) (took.closes.rest.cut ∙ took.moves.cut_same) ∙ no_cut (amount n.cut f k) fits;
        }
    moves_by (Aborts txn) m plain lawful took =
        let taken = taken_at es rows are txn lawful.1.0 lawful.1.1 in
        record {
          room_places = λ g. ap (λ a. has_slot a g) took.rest.room;
          aside_places = λ g. took.places g;
          cut_places = λ g. ap (λ a. has_slot a g) took.rest.cut;
          room = λ f k l. ap (λ a. amount a f k) took.rest.room ∙ no_more (amount n.room f k) (room_small f k l);
          aside = λ f k l.
              let fits = aside_small f k l in
              omega (arith, fits, taken f k, took.less f k (is.aside_in f l));
          cut = λ f k l. ap (λ a. amount a f k) took.rest.cut ∙ no_cut (amount n.cut f k) (cut_fits f k l);
        }
    moves_by (Gives None field kind size) m plain lawful took =
        record {
          room_places = λ g. ap (λ a. has_slot a g) took.room_same;
          aside_places = λ g. ap (λ a. has_slot a g) took.aside_same;
          cut_places = λ g. took.cut.places g;
          room = λ f k l. ap (λ a. amount a f k) took.room_same ∙ no_more (amount n.room f k) (room_small f k l);
          aside = λ f k l. ap (λ a. amount a f k) took.aside_same ∙ no_more (amount n.aside f k) (aside_small f k l);
          cut = λ f k l.
              let fits = cut_fits f k l in
              took.cut.more f k (is.cut_in f l)
              ∙ capped_there (amount n.cut f k) size (eqb field.0 f && same_kind kind k) (omega (arith, fits));
        }
    moves_by (Grants txn field change) m plain lawful took =
        record {
          room_places = λ g. ap (λ a. has_slot a g) took.rest.room;
          aside_places = λ g. took.more.places g;
          cut_places = λ g. ap (λ a. has_slot a g) took.rest.cut;
          room = λ f k l. ap (λ a. amount a f k) took.rest.room ∙ no_more (amount n.room f k) (room_small f k l);
          aside = λ f k l.
              let fits = aside_small f k l in
              took.more.more f k (is.aside_in f l)
              ∙ capped_there (amount n.aside f k) (unsigned_abs change) (eqb field.0 f && same_kind (kind_of change) k)
              (omega (arith, fits))
              ∙ none_less _;
          cut = λ f k l. ap (λ a. amount a f k) took.rest.cut ∙ no_cut (amount n.cut f k) (cut_fits f k l);
        }

    -- what was in doubt and is kept moves the room and the cut
    pub settled_by : (d : Option Effect) (m : FieldSums) → IsLawful schema base (with_effect true d es) → SettlesDoubt d rows n m
        → Settled schema n m (λ f k. committed_in_doubt f k es d) (λ f k. given_in_doubt f k d)
    settled_by None m lawful took = subst (λ x. Settled schema n x (λ f k. 0) (λ f k. 0)) (sym took) unsettled
    settled_by (Some (Begins txn)) m lawful took = subst (λ x. Settled schema n x (λ f k. 0) (λ f k. 0)) (sym took) unsettled
    settled_by (Some (Grants txn field change)) m lawful took = subst (λ x. Settled schema n x (λ f k. 0) (λ f k. 0)) (sym took) unsettled
    settled_by (Some (Aborts txn)) m lawful took = subst (λ x. Settled schema n x (λ f k. 0) (λ f k. 0)) (sym took) unsettled
    settled_by (Some (Gives (Some to) field kind size)) m lawful took =
        subst (λ x. Settled schema n x (λ f k. 0) (λ f k. 0)) (sym took) unsettled
    settled_by (Some (Accepts from field kind total)) m lawful took =
        subst (λ x. Settled schema n x (λ f k. 0) (λ f k. 0)) (sym took) unsettled
    settled_by (Some Stops) m lawful took = subst (λ x. Settled schema n x (λ f k. 0) (λ f k. 0)) (sym took) unsettled
    settled_by (Some (Commits txn)) m lawful took =
        let taken = taken_at es rows are txn lawful.1.0 lawful.1.1 in
        record {
          room_places = took.places;
          cut_places = λ g. ap (λ a. has_slot a g) took.cut_same;
          aside_same = took.aside_same;
          room = λ f k l.
              let fits = room_small f k l in
              took.room f k (is.room_in f l) (omega (arith, fits)) ∙ rw (taken f (other k), taken f k) refl;
          cut = λ f k l. ap (λ a. amount a f k) took.cut_same ∙ no_cut (amount n.cut f k) (cut_fits f k l);
        }
    settled_by (Some (Gives None field kind size)) m lawful took =
        record {
          room_places = λ g. ap (λ a. has_slot a g) took.room_same;
          cut_places = took.cut.places;
          aside_same = took.aside_same;
          room = λ f k l. ap (λ a. amount a f k) took.room_same ∙ no_more (amount n.room f k) (room_small f k l);
          cut = λ f k l.
              let fits = cut_fits f k l in
              took.cut.more f k (is.cut_in f l)
              ∙ capped_there (amount n.cut f k) size (eqb field.0 f && same_kind kind k) (omega (arith, fits));
        }

    -- and the stop behind it closes all that the site holds
    pub stops_all : (d : Option Effect) (mid m : FieldSums) → IsLawful schema base es
        → Settled schema n mid (λ f k. committed_in_doubt f k es d) (λ f k. given_in_doubt f k d)
        → Closes mid m (all_escrows rows)
        → Moved schema n m (λ f k. 0) (λ f k. held_rights f k es) (λ f k. committed_in_doubt f k es d)
        (λ f k. given_in_doubt f k d)
    stops_all d mid m lawful first then = record {
      room_places = λ g. ap (λ a. has_slot a g) then.rest.room ∙ first.room_places g;
      aside_places = λ g. then.places g ∙ ap (λ a. has_slot a g) first.aside_same;
      cut_places = λ g. ap (λ a. has_slot a g) then.rest.cut ∙ first.cut_places g;
      room = λ f k l. ap (λ a. amount a f k) then.rest.room ∙ first.room f k l;
      aside = λ f k l.
          let fits = aside_small f k l in
          let same = ap (λ a. amount a f k) first.aside_same in
          omega (
            arith,
            fits,
            same,
            all_held es rows are schema base lawful f k,
            then.less f k (ap (λ a. has_slot a f) first.aside_same ∙ is.aside_in f l),
          );
      cut = λ f k l. ap (λ a. amount a f k) then.rest.cut ∙ first.cut f k l;
    }
