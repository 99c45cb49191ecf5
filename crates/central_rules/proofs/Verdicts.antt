-- The verdict is Legal exactly over sound traces that are central.
use Rattle.std.proofs.Common.{◌≡◌, ℕ, ◌+◌, ◌<◌, Bool, true, false, List, [], ◌∷◌, ◌++◌, reverse, take, drop, length, get_or, refl, ap, sym, ◌∙◌, inl, inr, arith, Option, Some, None}
use Rattle.std.proofs.lemmas.Bool.{ltb-true, lt-ltb}
use Rattle.std.proofs.lemmas.List.{length-reverse, length-take-le}
use Rattle.central_rules.proofs.Fronts.{front_more, whole}
use Rattle.std.specs.Prelude.{◌⊎◌}
use Rattle.field_bounds.specs.declared.entry.Entry.{Entry}
use Rattle.central_rules.specs.declared.verdict.Rule.{Rule}
use Rattle.central_rules.specs.declared.verdict.Verdict.{Verdict}
use Rattle.central_rules.specs.declared.verdict.Verdict.TheVariants.{Legal, Illegal}
use Rattle.field_bounds.specs.Schema.{SchemaValue}
use Rattle.field_bounds.specs.Effects.{fresh}
use Rattle.field_bounds.specs.Owed.{Fits, place}
use Rattle.field_bounds.specs.Central.{own, IsSound, IsCentral, KeepsRules}
use Rattle.central_rules.specs.Verdict.{first_broken, rules, broken_rule, verdict_more, verdict_back, verdict_of, IsFirstBad}
use Rattle.central_rules.proofs.Decided.{fits_is, grant_is, shortage_is, interval_is, statement_is}
use Rattle.field_bounds.proofs.Sound.{sound_more}
use Rattle.field_bounds.proofs.Traces.{sound_front, sound_fits}

-- each test of the list holds
abbrev pub AllHold : List (Bool × Rule) → Type 0
AllHold [] = Unit {0}
AllHold (test ∷ rest) = (test.0 ≡ true) × AllHold rest

hold_step : (b : Bool) (r : Rule) (rest : List (Bool × Rule)) → first_broken ((b, r) ∷ rest) ≡ None
    → (first_broken rest ≡ None → AllHold rest) → (b ≡ true) × AllHold rest
hold_step true r rest h more = (refl, more h)
hold_step false r rest h more = cc

pub all_hold : (tests : List (Bool × Rule)) → first_broken tests ≡ None → AllHold tests
all_hold [] h = tt
all_hold (test ∷ rest) h = hold_step test.0 test.1 rest h (all_hold rest)

pub none_broken : (tests : List (Bool × Rule)) → AllHold tests → first_broken tests ≡ None
none_broken [] h = refl
none_broken (test ∷ rest) h = rw (h.0) (none_broken rest h.1)

legal_more : (v : Verdict) (o : Option Rule) (n : ℕ) → verdict_more v o n ≡ Legal → (v ≡ Legal) × (o ≡ None)
legal_more Legal None n h = (refl, refl)
legal_more Legal (Some rule) n h = cc
legal_more (Illegal at rule) o n h = cc

-- every rule holds of the entry
pub record Good (schema : SchemaValue) (t : List Entry) (e : Entry) : Type 0 where
  pub keeps : KeepsRules schema t e
  pub fits : Fits (place schema e.site.0 (fresh schema e.site.0) (own e.site.0 t)) e.command e.reply

pub unbroken_is_good : (schema : SchemaValue) (t : List Entry) (e : Entry) → broken_rule schema t e ≡ None → Good schema t e
unbroken_is_good schema t e h =
    let all = all_hold (rules schema t e) h in
    record {
      keeps = record {
        site = ltb-true e.site.0 schema.sites all.0;
        grant = (grant_is schema t e.command e.reply).0 all.1.0;
        shortage = (shortage_is schema t e.site.0 e.command e.reply).0 all.1.1.0;
        interval = (interval_is schema t e.command e.reply).0 all.1.1.1.0;
        statement = (statement_is t e.command e.reply).0 all.1.1.1.1.0;
      };
      fits = (fits_is (place schema e.site.0 (fresh schema e.site.0) (own e.site.0 t)) e.command e.reply).0 all.1.1.1.1.1.0;
    }

pub good_is_unbroken : (schema : SchemaValue) (t : List Entry) (e : Entry) → Good schema t e → broken_rule schema t e ≡ None
good_is_unbroken schema t e good =
    none_broken (rules schema t e) (
      lt-ltb e.site.0 schema.sites good.keeps.site,
      (
        (grant_is schema t e.command e.reply).1 good.keeps.grant,
        (
          (shortage_is schema t e.site.0 e.command e.reply).1 good.keeps.shortage,
          (
            (interval_is schema t e.command e.reply).1 good.keeps.interval,
            (
              (statement_is t e.command e.reply).1 good.keeps.statement,
              ((fits_is (place schema e.site.0 (fresh schema e.site.0) (own e.site.0 t)) e.command e.reply).1 good.fits, tt),
            ),
          ),
        ),
      ),
    )

pub legal_is_sound : (schema : SchemaValue) (t : List Entry) → verdict_back schema t ≡ Legal → IsSound schema t × IsCentral schema t
unfolding verdict_back
legal_is_sound schema [] h = (record { sites = tt; statements = tt; runs = λ s lt. tt }, tt)
legal_is_sound schema (e ∷ t) h =
    let p = legal_more (verdict_back schema t) (broken_rule schema t e) (length t + 1) h in
    let rest = legal_is_sound schema t p.0 in
    let good = unbroken_is_good schema t e p.1 in
    (sound_more schema e t rest.0 good.keeps.site good.keeps.statement good.fits, (rest.1, good.keeps))

pub sound_is_legal : (schema : SchemaValue) (t : List Entry) → IsSound schema t → IsCentral schema t → verdict_back schema t ≡ Legal
unfolding verdict_back
sound_is_legal schema [] sound central = refl
sound_is_legal schema (e ∷ t) sound central =
    let front = sound_is_legal schema t (sound_front schema e t sound) central.0 in
    let good : Good schema t e = record { keeps = central.1; fits = sound_fits schema e t sound } in
    rw (front, good_is_unbroken schema t e good) refl

-- ---- what a judge needs that stops at the first bad entry

-- a bad front stays bad
pub bad_stays : (schema : SchemaValue) (later t : List Entry) (at : ℕ) (rule : Rule) → verdict_back schema t ≡ Illegal at rule
    → verdict_back schema (later ++ t) ≡ Illegal at rule
unfolding verdict_back
bad_stays schema [] t at rule h = h
bad_stays schema (e ∷ later) t at rule h = rw (bad_stays schema later t at rule h) refl

bad_step : (schema : SchemaValue) (e : Entry) (t : List Entry) (v : Verdict) (o : Option Rule) (at : ℕ) (rule : Rule)
    → verdict_more v o (length t + 1) ≡ Illegal at rule
    → ((v ≡ Legal) × (o ≡ Some rule) × (at ≡ length t + 1)) ⊎ (v ≡ Illegal at rule)
bad_step schema e t Legal None at rule h = cc
bad_step schema e t Legal (Some found) at rule h = inl (refl, cc, cc)
bad_step schema e t (Illegal there found) o at rule h = inr h

pub illegal_is : (schema : SchemaValue) (t : List Entry) (at : ℕ) (rule : Rule) → verdict_back schema t ≡ Illegal at rule
    → IsFirstBad schema t at rule
unfolding verdict_back
illegal_is schema [] at rule h = cc
illegal_is schema (e ∷ t) at rule h =
    elim (bad_step schema e t (verdict_back schema t) (broken_rule schema t e) at rule h) [
      | inl now ↦ record {
        front = t;
        entry = e;
        later = [];
        parts = refl;
        place = now.2;
        sound = legal_is_sound schema t now.0;
        breaks =
            now.1;
      }
      | inr before ↦
          let found = illegal_is schema t at rule before in
          record {
            front = found.front;
            entry = found.entry;
            later = e ∷ found.later;
            parts = ap (λ (x : List Entry). e ∷ x) found.parts;
            place = found.place;
            sound = found.sound;
            breaks = found.breaks;
          }
    ]

-- ---- a loop over the entries, oldest first

module _ (schema : SchemaValue) (entries : List Entry) (i : ℕ) (d : Entry) (h : i < length entries)
    (legal : verdict_back schema (reverse (take i entries)) ≡ Legal) where
  pub stop_here : (rule : Rule) → broken_rule schema (reverse (take i entries)) (get_or entries i d) ≡ Some rule
      → Illegal (i + 1) rule ≡ verdict_of schema entries
  unfolding verdict_back
  stop_here rule found =
      let t = reverse (take i entries) in
      let long : length t ≡ i = length-reverse (take i entries) ∙ length-take-le i entries (omega arith) in
      let here : verdict_back schema (get_or entries i d ∷ t) ≡ Illegal (i + 1) rule = rw (legal, found, long) refl in
      let there : verdict_back schema (reverse (take (i + 1) entries)) ≡ Illegal (i + 1) rule = rw (front_more entries i d h) here in
      sym (ap (λ (x : List Entry). verdict_back schema x) (whole entries (i + 1))
      ∙ bad_stays schema (reverse (drop (i + 1) entries)) (reverse (take (i + 1) entries)) (i + 1) rule there)

  pub go_on : broken_rule schema (reverse (take i entries)) (get_or entries i d) ≡ None
      → verdict_back schema (reverse (take (i + 1) entries)) ≡ Legal
  unfolding verdict_back
  go_on found = rw (front_more entries i d h) (rw (legal, found) refl)
