-- The sums of the fields over a legal trace, when the next entry of a site is taken in.
use Rattle.std.proofs.Common.{◌≡◌, ◌≢◌, ℕ, ◌+◌, ◌≤◌, Bool, true, false, List, ◌∷◌, refl, sym, ◌∙◌, ap, arith, subst, Option, Some, None}
use Rattle.field_bounds.specs.declared.kind.Kind.{Kind}
use Rattle.field_bounds.specs.declared.kind.Kind.TheVariants.{Lower, Raise}
use Rattle.field_bounds.specs.declared.effect.Effect.{Effect}
use Rattle.field_bounds.specs.declared.effect.Effect.TheVariants.{Begins, Grants, Commits, Aborts, Gives, Accepts, Stops}
use Rattle.field_bounds.specs.declared.entry.Entry.{Entry}
use Rattle.field_bounds.specs.declared.entry.Command.{Command}
use Rattle.field_bounds.specs.declared.entry.Command.TheVariants.{Begin, Escrow, Commit, Abort, Give, Restate, Spare, Tighten, Accept, Read, Share, Restart}
use Rattle.field_bounds.specs.declared.entry.Reply.{Reply}
use Rattle.field_bounds.specs.declared.entry.Reply.TheVariants.{Begun, Granted, Committed, Aborted, Given, Stated, Spared, Tightened, Accepted, Between, Shares, Restarted, Unsure, StillDown, Refused}
use Rattle.field_bounds.specs.declared.entry.Last.{Last}
use Rattle.field_bounds.specs.Schema.{SchemaValue}
use Rattle.field_bounds.specs.Limits.{IsSchema}
use Rattle.field_bounds.specs.Effects.{Base, fresh, with_effect, effect_of, after, effects, doubt_kept_before, says_doubt_kept, held_rights, cut, effect_by}
use Rattle.field_bounds.specs.Owed.{place, Fits}
use Rattle.field_bounds.specs.Central.{own, at_site, IsSound}
use Rattle.field_bounds.proofs.Lawful.{IsLawful}
use Rattle.field_bounds.proofs.Runs.{run_is_lawful}
use Rattle.field_bounds.proofs.Traces.{own_here, sound_front, sound_fits}
use Rattle.central_machine.specs.declared.numbers.Numbers.{Numbers}
use Rattle.central_machine.specs.declared.field_sums.FieldSums.{FieldSums}
use Rattle.central_machine.specs.FieldAmounts.{amount}
use Rattle.central_machine.specs.Running.{Describes, doubt, settled_effect}
use Rattle.central_machine.specs.Open.{all_escrows}
use Rattle.central_machine.specs.Sums.{AreSums, SettlesDoubt, Closes, SumsTake, SumsAfter}
use Rattle.central_machine.proofs.Doubts.{dropped, restart_settles}
use Rattle.central_machine.proofs.Opened.{AreOpen}
use Rattle.central_machine.proofs.Sites.{agrees, is_restarted, never_restarted}
use Rattle.central_machine.proofs.Moves.{committed_sizes, opened_by, closed_by, committed_by, given_up_by, held_moves, committed_moves, cut_moves, open_moves, held_in_open, cuts_more, committed_more}
use Rattle.central_machine.proofs.Sums_more.{Shifts, by_effect, sums_moved}
use Rattle.central_machine.proofs.Sums_taken.{still, moves_by, settled_by, stops_all, committed_in_doubt, given_in_doubt}

-- only a restart stops a site
never_stops : (shares : ℕ → Kind → ℕ) (c : Command) (r : Reply) → is_restarted r ≡ false → effect_by shares c r ≢ Some Stops
never_stops shares Begin (Begun txn) plain = λ h. cc
never_stops shares Begin r plain = λ h. cc
never_stops shares (Escrow txn field change) Granted plain = λ h. cc
never_stops shares (Escrow txn field change) r plain = λ h. cc
never_stops shares (Commit txn) Committed plain = λ h. cc
never_stops shares (Commit txn) Unsure plain = λ h. cc
never_stops shares (Commit txn) r plain = λ h. cc
never_stops shares (Abort txn) Aborted plain = λ h. cc
never_stops shares (Abort txn) r plain = λ h. cc
never_stops shares (Give to field kind amount) (Given total) plain = λ h. cc
never_stops shares (Give to field kind amount) Unsure plain = λ h. cc
never_stops shares (Give to field kind amount) r plain = λ h. cc
never_stops shares (Restate to field kind) r plain = λ h. cc
never_stops shares (Spare to field kind want) (Spared amount total) plain = λ h. cc
never_stops shares (Spare to field kind want) Unsure plain = λ h. cc
never_stops shares (Spare to field kind want) r plain = λ h. cc
never_stops shares (Tighten field kind amount) (Tightened total) plain = λ h. cc
never_stops shares (Tighten field kind amount) Unsure plain = λ h. cc
never_stops shares (Tighten field kind amount) r plain = λ h. cc
never_stops shares (Accept told) (Accepted gain) plain = λ h. cc
never_stops shares (Accept told) Unsure plain = λ h. cc
never_stops shares (Accept told) r plain = λ h. cc
never_stops shares (Read field) r plain = λ h. cc
never_stops shares (Share field) r plain = λ h. cc
never_stops shares Restart (Restarted epoch found) plain = λ h. cc
never_stops shares Restart r plain = λ h. cc

module _ (schema : SchemaValue) (good : IsSchema schema) (e : Entry) (t : List Entry) (sound : IsSound schema (e ∷ t)) where
  abbrev base : Base
  base = fresh schema e.site.0

  abbrev es : List Effect
  es = at_site schema t e.site.0

  -- an entry that puts nothing into effect moves no sum
  no_effect : at_site schema (e ∷ t) e.site.0 ≡ es → (f : ℕ) → Shifts schema e t f (λ k. 0) (λ k. 0) (λ k. 0) (λ k. 0)
  no_effect is f = record {
    opens = λ k. open_moves schema e t sound f k 0 0 (ap (λ (x : List Effect). held_rights f k x + 0) is);
    closes = λ k. omega arith;
    commits = λ k. omega arith;
    value = committed_more schema e t sound f 0 0 (told Raise) (told Lower);
    cuts = λ k. cuts_more schema e t sound f k 0 (ap (λ (x : List Effect). cut base f k x) is ∙ omega arith);
  }
    where
      told : (k : Kind) → committed_sizes f k (at_site schema (e ∷ t) e.site.0) ≡ committed_sizes f k es + 0
      told k = ap (λ (x : List Effect). committed_sizes f k x) is ∙ omega arith

  -- a restart closes all that the site holds, behind what was in doubt and is kept
  by_restart : (d : Option Effect) → IsLawful schema base (Stops ∷ with_effect true d es)
      → at_site schema (e ∷ t) e.site.0 ≡ Stops ∷ with_effect true d es → (f : ℕ)
      → Shifts schema e t f (λ k. 0) (λ k. held_rights f k es) (λ k. committed_in_doubt f k es d) (λ k. given_in_doubt f k d)
  by_restart d lawful is f = record {
    opens = λ k. open_moves schema e t sound f k (held_rights f k es) 0
        (omega (arith, ap (λ (x : List Effect). held_rights f k x) is, held_moves schema base (with_effect true d es) f k Stops lawful));
    closes = λ k. held_in_open schema e t sound f k;
    commits = λ k. omega (arith, fits d lawful.0 k, held_in_open schema e t sound f k);
    value = committed_more schema e t sound f (committed_in_doubt f Raise es d) (committed_in_doubt f Lower es d) (told Raise) (told Lower);
    cuts = λ k. cuts_more schema e t sound f k (given_in_doubt f k d)
        (omega (
          arith,
          ap (λ (x : List Effect). cut base f k x) is,
          cut_moves schema base (with_effect true d es) f k Stops,
          given d k,
        ));
  }
    where
      fits : (o : Option Effect) → IsLawful schema base (with_effect true o es) → (k : Kind)
          → committed_in_doubt f k es o ≤ held_rights f k es
      fits None l k = omega arith
      fits (Some (Commits txn)) l k = omega (arith, held_moves schema base es f k (Commits txn) l)
      fits (Some (Begins txn)) l k = omega arith
      fits (Some (Grants txn field change)) l k = omega arith
      fits (Some (Aborts txn)) l k = omega arith
      fits (Some (Gives to field kind amount)) l k = omega arith
      fits (Some (Accepts from field kind total)) l k = omega arith
      fits (Some Stops) l k = omega arith

      committed : (o : Option Effect) → IsLawful schema base (with_effect true o es) → (k : Kind)
          → committed_sizes f k (with_effect true o es) ≡ committed_sizes f k es + committed_in_doubt f k es o
      committed None l k = omega arith
      committed (Some x) l k = committed_moves schema base es f k x l

      told : (k : Kind) → committed_sizes f k (at_site schema (e ∷ t) e.site.0) ≡ committed_sizes f k es + committed_in_doubt f k es d
      told k = omega (
        arith,
        ap (λ (x : List Effect). committed_sizes f k x) is,
        committed_moves schema base (with_effect true d es) f k Stops lawful,
        committed d lawful.0 k,
      )

      given : (o : Option Effect) (k : Kind) → cut base f k (with_effect true o es) ≡ cut base f k es + given_in_doubt f k o
      given None k = omega arith
      given (Some x) k = cut_moves schema base es f k x

  module _ (n : FieldSums) (is : AreSums schema t n) (x : Numbers)
      (describes : Describes schema base es x) where
    front : IsSound schema t
    front = sound_front schema e t sound

    lawful_now : IsLawful schema base (at_site schema (e ∷ t) e.site.0)
    lawful_now = run_is_lawful schema e.site.0 base (own e.site.0 (e ∷ t)) (sound.runs e.site.0 sound.sites.1) false

    open_rows : AreOpen es x.journal.rows.items
    open_rows = record { txns = describes.txns; escrows = describes.escrows }

    -- the sums follow what takes effect
    taken : (d : Option Effect) (m : FieldSums) → d ≢ Some Stops → at_site schema (e ∷ t) e.site.0 ≡ with_effect true d es
        → SumsTake d x.journal.rows.items n m → AreSums schema (e ∷ t) m
    taken None m plain same took =
        subst (λ (y : FieldSums). AreSums schema (e ∷ t) y) (sym took)
        (sums_moved schema good e t sound n n (λ f k. 0) (λ f k. 0) (λ f k. 0) (λ f k. 0)
        (λ f l. no_effect same f) (still schema good t front n is) is)
    taken (Some d) m plain same took =
        let lawful = subst (λ (y : List Effect). IsLawful schema base y) same lawful_now in
        sums_moved schema good e t sound n m (λ f k. opened_by f k d) (λ f k. closed_by f k es d)
        (λ f k. committed_by f k es d) (λ f k. given_up_by f k d)
        (λ f l. by_effect schema good e t sound f d lawful same)
        (moves_by schema good t front n is base es x.journal.rows.items open_rows d m (λ (h : d ≡ Stops). plain (ap (λ (y : Effect). Some y) h))
        lawful took) is

    restarted : (kept : Bool) (m : FieldSums) → at_site schema (e ∷ t) e.site.0 ≡ Stops ∷ effects base kept (own e.site.0 t)
        → (mid : FieldSums) → SettlesDoubt (settled_effect kept (doubt base (own e.site.0 t))) x.journal.rows.items n mid
        → Closes mid m (all_escrows x.journal.rows.items) → AreSums schema (e ∷ t) m
    restarted kept m same mid first then =
        let o = own e.site.0 t in
        let d = settled_effect kept (doubt base o) in
        let settles = restart_settles schema e.site.0 base o (front.runs e.site.0 sound.sites.1) kept in
        let whole_is : at_site schema (e ∷ t) e.site.0 ≡ Stops ∷ with_effect true d es = same ∙ ap (λ (y : List Effect). Stops ∷ y) settles in
        let lawful = subst (λ (y : List Effect). IsLawful schema base y) whole_is lawful_now in
        sums_moved schema good e t sound n m (λ f k. 0) (λ f k. held_rights f k es)
        (λ f k. committed_in_doubt f k es d) (λ f k. given_in_doubt f k d)
        (λ f l. by_restart d lawful whole_is f)
        (stops_all schema good t front n is base es x.journal.rows.items open_rows d mid m
        (run_is_lawful schema e.site.0 base o (front.runs e.site.0 sound.sites.1) false)
        (settled_by schema good t front n is base es x.journal.rows.items open_rows d mid lawful.0 first) then) is

    abbrev Next : Command → Reply → Type 0
    Next c r =
        (m : FieldSums) → at_site schema (e ∷ t) e.site.0 ≡ after base false c r (effects base (doubt_kept_before false r) (own e.site.0 t))
        → SumsAfter (effect_by (amount x.free) c r) r (doubt base (own e.site.0 t)) x.journal.rows.items n m → AreSums schema (e ∷ t) m

    sure : (c : Command) (r : Reply) → is_restarted r ≡ false → effect_by (amount x.free) c r ≡ effect_of base es c r → (m : FieldSums)
        → at_site schema (e ∷ t) e.site.0 ≡ with_effect true (effect_of base es c r) es
        → SumsTake (effect_by (amount x.free) c r) x.journal.rows.items n m → AreSums schema (e ∷ t) m
    sure c r plain told m same took =
        taken (effect_by (amount x.free) c r) m (never_stops (amount x.free) c r plain)
        (same ∙ ap (λ (d : Option Effect). with_effect true d es) (sym told)) took

    by_reply : (c : Command) (r : Reply) → is_restarted r ≡ false → effect_by (amount x.free) c r ≡ effect_of base es c r → Next c r
    by_reply c (Begun txn) plain told = λ m same took. sure c (Begun txn) refl told m same took
    by_reply c Granted plain told = λ m same took. sure c Granted refl told m same took
    by_reply c Committed plain told = λ m same took. sure c Committed refl told m same took
    by_reply c Aborted plain told = λ m same took. sure c Aborted refl told m same took
    by_reply c (Given total) plain told = λ m same took. sure c (Given total) refl told m same took
    by_reply c (Stated total) plain told = λ m same took. sure c (Stated total) refl told m same took
    by_reply c (Spared amount total) plain told = λ m same took. sure c (Spared amount total) refl told m same took
    by_reply c (Tightened total) plain told = λ m same took. sure c (Tightened total) refl told m same took
    by_reply c (Accepted gain) plain told = λ m same took. sure c (Accepted gain) refl told m same took
    by_reply c (Between lo hi) plain told = λ m same took. sure c (Between lo hi) refl told m same took
    by_reply c (Shares lower raise) plain told = λ m same took. sure c (Shares lower raise) refl told m same took
    by_reply c (Restarted epoch found) plain told = cc
    by_reply c Unsure plain told = λ m same took.
        taken None m (λ (h : None ≡ Some Stops). cc) (same ∙ dropped (effect_of base es c Unsure) es) took
    by_reply c StillDown plain told = λ m same took. sure c StillDown refl told m same took
    by_reply c (Refused refusal) plain told = λ m same took. sure c (Refused refusal) refl told m same took

    of_restart : (c : Command) (epoch : ℕ) (found : Last) → Fits (place schema e.site.0 base (own e.site.0 t)) c (Restarted epoch found)
        → Next c (Restarted epoch found)
    of_restart Restart epoch found fits = λ m same took. restarted (says_doubt_kept found) m same took.0 took.1 took.2
    of_restart c epoch found fits = absurd (let no_way = never_restarted (place schema e.site.0 base (own e.site.0 t)) c epoch found fits in cc)

    next : (c : Command) (r : Reply) → Fits (place schema e.site.0 base (own e.site.0 t)) c r
        → effect_by (amount x.free) c r ≡ effect_of base es c r → Next c r
    next c (Restarted epoch found) fits told = of_restart c epoch found fits
    next c r fits told = by_reply c r refl told

    pub sums_step : (d : Option Effect) (m : FieldSums) → d ≡ doubt base (own e.site.0 t)
        → SumsAfter (effect_by (amount x.free) e.command e.reply) e.reply d x.journal.rows.items n m → AreSums schema (e ∷ t) m
    sums_step d m is_doubt took =
        let fits = sound_fits schema e t sound in
        next e.command e.reply fits
        (agrees schema e.site.0 base (own e.site.0 t) (amount x.free) describes.free e.command e.reply fits) m
        (ap (λ (o : List Entry). effects base false o) (own_here e.site.0 e t refl))
        (subst (λ (y : Option Effect). SumsAfter (effect_by (amount x.free) e.command e.reply) e.reply y x.journal.rows.items n m) is_doubt took)
