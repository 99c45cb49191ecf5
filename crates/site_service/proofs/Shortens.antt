-- A service whose log was shortened is sound, and serves the same site.
use Rattle.std.proofs.Common.{◌≡◌, ◌⊎◌, ◌||◌, ℕ, Bool, true, false, List, [], ◌∷◌, ◌++◌, length, take, Option, None, Some, refl, sym, ap, ◌∙◌, subst, inl, inr, arith, append_assoc, append-nil}
use Rattle.std.proofs.lemmas.List.{append_cancel_left, take_all}
use Rattle.std.proofs.lemmas.List.Folds.{list_any-append}
use Rattle.kept_records.specs.declared.record.Record.{Record}
use Rattle.kept_records.specs.Summary.{summary_record}
use Rattle.kept_records.proofs.Lines.{same_log}
use Rattle.file_medium.specs.Copies.{IsCopyOf}
use Rattle.caller_keys.specs.Keys.{IsKeyed, AreLines, last_txn}
use Rattle.caller_keys.proofs.Fronts.{notes_alone}
use Rattle.log_head.specs.declared.gone.Gone.{Gone}
use Rattle.site_step.specs.Site.{SiteValue}
use Rattle.site_service.specs.declared.service.shortening.Shorter.{Shorter}
use Rattle.site_service.specs.LetGo.{IsTold, let_go_of}
use Rattle.site_service.specs.Kept.{LastNotes}
use Rattle.site_service.specs.Answers.{served_of}
use Rattle.site_service.specs.Service.{ServiceValue, value_of, StandsOnHeld, IsTextOf, HoldsText, IsSettled}
use Rattle.site_service.specs.Index.{IsIndexOf, IsSoundService}
use Rattle.site_step.specs.Shortening.{ShorteningValue, IsShortening, CanGo, held_of, is_commit_of, has_commit}
use Rattle.site_service.specs.Shortening.{KeepsHeldNotes, HasLetGo, SparesOpen, LeavesEither}
use Rattle.site_service.specs.Shorter.{IsShorter}
use Rattle.site_service.proofs.KeyedTexts.{keyed_more, lines_more}
use Rattle.site_service.proofs.Held.{held_log}

-- what a put left that failed
pub left_by : (was now : Option (List ℕ)) (given text : List ℕ) → given ≡ text → (now ≡ was) ⊎ IsCopyOf now given
    → (now ≡ was) ⊎ IsCopyOf now text
left_by was now given text same (inl still) = inl still
left_by was now given text same (inr copy) = inr (subst (IsCopyOf now) same copy)

or_parts : (a b : Bool) → (a || b) ≡ true → (a ≡ true) ⊎ (b ≡ true)
or_parts true b h = inl refl
or_parts false b h = inr h

module _ (site : SiteValue) (last : LastNotes) (told : Option Gone) (lines : ℕ) (stands : StandsOnHeld site)
    (true_ : IsTold (let_go_of site.gone told)) (plan : ShorteningValue) (is : IsShortening site plan) (shorter : Shorter)
    (made : IsShorter (served_of site last told lines) plan shorter) where
  abbrev stays : List Record
  stays = summary_record is.base ∷ is.behind

  abbrev pub shorter_site : SiteValue
  shorter_site = record site { gone = site.gone ++ plan.gone }

  -- the records that were held are those that go and those that stay
  parts : stands.held ≡ plan.gone ++ stays
  parts = (same_log (held_of site) stands.held (plan.gone ++ stays) [] [] (held_log site stands) is.log).0

  later_stands : StandsOnHeld shorter_site
  later_stands = record {
    never = stands.never;
    records = stands.records;
    log = stands.log;
    held = stays;
    parts = stands.parts ∙ ap (λ (rs : List Record). site.gone ++ rs) parts ∙ sym (append_assoc site.gone plan.gone stays);
  }

  later_held : held_of shorter_site ≡ plan.held
  unfolding later_stands
  later_held = (held_log shorter_site later_stands).parts ∙ sym is.held.parts

  later_told : IsTold (let_go_of (site.gone ++ plan.gone) (Some shorter.told))
  later_told = record {
    none = λ none. let e : ◌≡◌ {A = Option Gone} (Some shorter.told) None = none in absurd cc;
    horizon = λ txn has. elim (or_parts (has_commit txn site.gone) (has_commit txn plan.gone)
        (sym (list_any-append (is_commit_of txn) site.gone plan.gone) ∙ has)) [
          | inl before ↦ made.tells.further txn (true_.horizon txn before)
          | inr now ↦ made.tells.commits txn now
        ];
  }

  -- the text of the log
  abbrev text : List ℕ
  text = shorter.text.items

  text_keyed : IsKeyed text made.notes plan.held
  text_keyed = subst (λ (t : List ℕ). IsKeyed t made.notes plan.held) (sym made.text)
      (keyed_more [] [] made.notes 0 plan.held stays (inl refl) (notes_alone [] tt) made.each is.held)

  text_lines : AreLines text
  text_lines = subst AreLines (sym made.text) (lines_more [] made.notes 0 plan.held stays (inl refl) is.held)

  text_is : IsTextOf text shorter.keys.last (held_of shorter_site)
  text_is = record {
    notes = made.notes;
    keyed = subst (IsKeyed text made.notes) (sym later_held) text_keyed;
    tells = made.noted;
  }

  -- what was let go, where it can be with so many bytes to keep
  module _ (keep : ℕ) (can : CanGo (held_of site) keep plan.gone) where
    abbrev left : List Record
    left = summary_record can.base ∷ can.behind

    stays_is : stays ≡ left
    stays_is = append_cancel_left plan.gone stays left
        (same_log (held_of site) (plan.gone ++ stays) (plan.gone ++ left) [] [] is.log can.log).0

    let_go_here : HasLetGo keep (served_of site last told lines) (served_of shorter_site shorter.keys.last (Some shorter.told) lines)
    let_go_here = record {
      site = refl;
      lines = refl;
      more = plan.gone;
      can = can;
      last = subst (KeepsHeldNotes last shorter.keys.last) stays_is (made.last stays [] is.held);
      told = shorter.told;
      let_go_is = refl;
      tells = made.tells;
    }

    pub leaves_either : (safe now : Option (List ℕ)) → HoldsText safe last (held_of site) → (now ≡ safe) ⊎ IsCopyOf now text
        → LeavesEither keep (served_of site last told lines) now
    leaves_either safe now was (inl same) = inl (subst (λ (k : Option (List ℕ)). HoldsText k last (held_of site)) (sym same) was)
    leaves_either safe now was (inr copy) =
        inr (
          served_of shorter_site shorter.keys.last (Some shorter.told) lines,
          let_go_here,
          record { text = text; copy = copy; is = text_is },
        )

    pub has_let_go : (later : SiteValue) → later ≡ shorter_site
        → HasLetGo keep (served_of site last told lines) (served_of later shorter.keys.last (Some shorter.told) lines)
    has_let_go later same =
        subst (λ (v : SiteValue). HasLetGo keep (served_of site last told lines) (served_of v shorter.keys.last (Some shorter.told) lines))
        (sym same) let_go_here

  module _ (later : SiteValue) (same : later ≡ shorter_site) where
    pub spares_open : SparesOpen (served_of site last told lines) (served_of later shorter.keys.last (Some shorter.told) lines)
    spares_open = made.spares

    module _ (waiting : List ℕ) (log safe : Option (List ℕ)) (least : Option ℕ)
        (size : ℕ) (size_is : size ≡ length plan.held) (lost : Bool) (log_copy : IsCopyOf log text) (safe_copy : IsCopyOf safe text) where
      abbrev now : SiteValue → ServiceValue
      now v = value_of v shorter.keys.last (Some shorter.told) lines waiting log safe least size lost

      taken : take size (held_of shorter_site) ≡ plan.held
      taken = ap (take size) later_held ∙ take_all size plan.held (omega (arith, size_is))

      sound_here : IsSoundService shorter_site (now shorter_site) shorter.kept shorter.keys.lines
      sound_here = record {
        linked = record {
          stands = later_stands;
          let_go = later_told;
          within = omega (arith, size_is, ap length later_held);
          text = text;
          lines = text_lines;
          notes = made.notes;
          keyed = subst (IsKeyed text made.notes) (sym taken) text_keyed;
          more = [];
          tells = λ key. made.noted key ∙ ap (last_txn key) (sym (append-nil made.notes));
          safe = λ h. safe_copy;
          log = λ h. log_copy;
        };
        index = subst (IsIndexOf shorter.kept) (sym later_held) made.index;
        noting = record { each = tt; lines = made.none };
      }

      pub sound_shorter : IsSoundService later (now later) shorter.kept shorter.keys.lines
      sound_shorter = subst (λ (v : SiteValue). IsSoundService v (now v) shorter.kept shorter.keys.lines) (sym same) sound_here

      settled_here : lost ≡ false → IsSettled (now shorter_site)
      settled_here fine = record { sound = fine; text = text; is = text_is; log = log_copy; safe = safe_copy }

      pub settled_shorter : lost ≡ false → IsSettled (now later)
      settled_shorter fine = subst (λ (v : SiteValue). IsSettled (now v)) (sym same) (settled_here fine)
