-- A trace that weaves runs of sites is sound.
use Rattle.std.proofs.Common.{◌≡◌, ◌≢◌, ℕ, zero, suc, ◌+◌, ◌<◌, ◌≤◌, List, [], ◌∷◌, ◌++◌, length, get_or, take, reverse, refl, sym, ap, subst, ◌∙◌, arith, Some}
use Rattle.std.proofs.lemmas.List.{reverse-append, take_more, take_all, get_or_past}
use Rattle.std.proofs.lemmas.Option.{slice_get_within, get_or_from_slice_get}
use Rattle.std.specs.List.{slice_get}
use native.Mathlib.Decide.{ℕ_discrete}
use mathlib.Core.Logic.{dite}
use Rattle.field_bounds.specs.declared.entry.Entry.{Entry}
use Rattle.field_bounds.specs.Schema.{SchemaValue}
use Rattle.field_bounds.specs.Effects.{fresh}
use Rattle.field_bounds.specs.Owed.{IsRun}
use Rattle.field_bounds.specs.Central.{own, AreOf, IsAtSites, IsTold, IsSound}
use Rattle.field_bounds.proofs.Traces.{own_here, own_there}
use Rattle.trace_weave.specs.Weave.{history_at, count_placed, next_of, IsPicked, Weaves}
use Rattle.trace_weave.proofs.Woven.{placed_here, placed_there}

site_at : (s : ℕ) (h : List Entry) (n : ℕ) (d : Entry) → AreOf s h → n < length h → (get_or h n d).site.0 ≡ s
site_at s [] n d of below = absurd (omega arith)
site_at s (e ∷ h) zero d of below = of.0
site_at s (e ∷ h) (suc n) d of below = site_at s h n d of.1 (omega arith)

no_entry : (n : ℕ) → ¬ (n < length {A = Entry} [])
no_entry n h = omega arith

-- a place with an entry left is one of the histories
pub place_within : (hs : List (List Entry)) (s n : ℕ) (e : Entry) → slice_get (history_at hs s) n ≡ Some e → s < length hs
place_within [] s n e is =
    let within : n < length (history_at [] s) = slice_get_within (history_at [] s) n e is in
    absurd (no_entry n (subst (λ (h : List Entry). n < length h) (get_or_past {X = List Entry} [] s [] (omega arith)) within))
place_within (h ∷ hs) zero n e is = omega arith
place_within (h ∷ hs) (suc s) n e is = let below : s < length hs = place_within hs s n e is in omega arith

module _ (hs : List (List Entry)) (sites : (s : ℕ) → s < length hs → AreOf s (history_at hs s)) where
  picked_site : (s n : ℕ) (e : Entry) → slice_get (history_at hs s) n ≡ Some e → e.site.0 ≡ s
  picked_site s n e is =
      subst (λ (x : Entry). x.site.0 ≡ s) (get_or_from_slice_get (history_at hs s) n e e is)
      (site_at s (history_at hs s) n e (sites s (place_within hs s n e is)) (slice_get_within (history_at hs s) n e is))

  -- a site's entries in the trace are the front of its history that was placed
  own_placed : (ps : List ℕ) (t : List Entry) → IsPicked hs ps t → (s : ℕ) → own s t ≡ reverse (take (count_placed s ps) (history_at hs s))
  own_placed [] [] by s = refl
  own_placed [] (e ∷ t) by s = absurd by
  own_placed (p ∷ ps) [] by s = absurd by
  own_placed (p ∷ ps) (e ∷ t) by s =
      let before : own s t ≡ reverse (take (count_placed s ps) (history_at hs s)) = own_placed ps t by.2 s in
      let site : e.site.0 ≡ p = picked_site p (count_placed p ps) e by.0 in
      dite (ℕ_discrete p s)
      (λ (here : p ≡ s).
      let h : List Entry = history_at hs s in
      let n : ℕ = count_placed s ps in
      let next : slice_get h n ≡ Some e = subst (λ (q : ℕ). next_of hs q ps ≡ Some e) here by.0 in
      let last : get_or h n e ≡ e = get_or_from_slice_get h n e e next in
      let grown : take (n + 1) h ≡ take n h ++ e ∷ [] =
      subst (λ (x : Entry). take (n + 1) h ≡ take n h ++ x ∷ []) last (take_more h n e (slice_get_within h n e next)) in
      own_here s e t (site ∙ here)
      ∙ (ap (λ (l : List Entry). e ∷ l) before
      ∙ (sym (reverse-append (take n h) (e ∷ []))
      ∙ (ap (λ (l : List Entry). reverse l) (sym grown)
      ∙ ap (λ (m : ℕ). reverse (take m h)) (sym (placed_here s p ps here))))))
      (λ (other : p ≢ s).
      own_there s e t (λ (is : e.site.0 ≡ s). other (sym site ∙ is))
      ∙ (before ∙ ap (λ (m : ℕ). reverse (take m (history_at hs s))) (sym (placed_there s p ps other))))

  at_sites : (schema : SchemaValue) → length hs ≡ schema.sites → (ps : List ℕ) (t : List Entry) → IsPicked hs ps t → IsAtSites schema t
  at_sites schema all [] [] by = tt
  at_sites schema all [] (e ∷ t) by = absurd by
  at_sites schema all (p ∷ ps) [] by = absurd by
  at_sites schema all (p ∷ ps) (e ∷ t) by =
      let site : e.site.0 ≡ p = picked_site p (count_placed p ps) e by.0 in
      let below : p < length hs = place_within hs p (count_placed p ps) e by.0 in
      (at_sites schema all ps t by.2, omega arith)

  are_told : (ps : List ℕ) (t : List Entry) → IsPicked hs ps t → IsTold t
  are_told [] [] by = tt
  are_told [] (e ∷ t) by = absurd by
  are_told (p ∷ ps) [] by = absurd by
  are_told (p ∷ ps) (e ∷ t) by = (are_told ps t by.2, by.1)

  pub woven_is_sound : (schema : SchemaValue) (t : List Entry) → length hs ≡ schema.sites
      → ((s : ℕ) → s < schema.sites → IsRun schema s (fresh schema s) (reverse (history_at hs s)))
      → Weaves hs t → IsSound schema t
  woven_is_sound schema t all runs w =
      let whole : (s : ℕ) → length (history_at hs s) ≤ count_placed s w.0 =
      λ s. (let w2 : count_placed s w.0 ≡ length (history_at hs s) = w.2 s in omega arith) in record {
        sites = at_sites schema all w.0 t w.1;
        statements = are_told w.0 t w.1;
        runs = λ s below.
            subst (λ (o : List Entry). IsRun schema s (fresh schema s) o)
            (sym (own_placed w.0 t w.1 s ∙ ap (λ (l : List Entry). reverse l) (take_all (count_placed s w.0) (history_at hs s) (whole s))))
            (runs s below);
      }
