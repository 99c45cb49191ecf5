-- The record in doubt stands where it was written, and only records of restarts behind it.
use Rattle.std.proofs.Common.{◌≡◌, ℕ, ◌+◌, Bool, true, false, cond, List, [], ◌∷◌, ◌++◌, append_assoc, drop, length, refl, sym, ◌∙◌, ap, subst, inl, inr, arith}
use Rattle.std.proofs.lemmas.Bool.{and_parts}
use Rattle.std.proofs.Math.Seq.{drop-append_seam}
use Rattle.std.proofs.lemmas.List.{append-nil}
use Rattle.std.proofs.lemmas.List.Folds.{list_all-append}
use Rattle.std.specs.Prelude.{◌⊎◌}
use Rattle.std.specs.List.{list_all}
use Rattle.field_bounds.specs.declared.entry.Command.{Command}
use Rattle.field_bounds.specs.declared.entry.Command.TheVariants.{Begin, Restart}
use Rattle.field_bounds.specs.declared.entry.Reply.{Reply}
use Rattle.field_bounds.specs.declared.entry.Reply.TheVariants.{Restarted, Unsure, StillDown, Refused}
use Rattle.field_bounds.specs.declared.entry.Entry.{Entry}
use Rattle.kept_records.specs.declared.record.Record.{Record}
use Rattle.kept_records.specs.declared.record.Record.TheVariants as records
use Rattle.field_bounds.specs.Schema.{SchemaValue}
use Rattle.field_bounds.specs.Effects.{Base, doubt_kept_before}
use Rattle.field_bounds.specs.Owed.{Place, place, first, refusals, answer, writes, is_unsure, count_since, count_after, Fits, RestartFits, AnswerFits, IsRun}
use Rattle.kept_records.specs.Stands.{greatest}
use Rattle.kept_state.specs.Keeps.{record_left, adds, Tells, Keeps}
use Rattle.kept_records.specs.Keeping.{is_restart as is_restart_record, starts_with_no_restart, is_record_behind}
use Rattle.kept_state.specs.Doubt.{InDoubt}
use Rattle.field_bounds.proofs.Refused.{match_cases, is_restart, up_there}
use Rattle.field_bounds.proofs.Doubt.{up_none_unsure}
use Rattle.kept_state.proofs.Adding.{one_left, left_is_own}

abbrev Doubted : Bool → List Record → Type 0
Doubted kept rs = (before : List Record) × (note : Record) × InDoubt kept before note rs

-- a record that was just in doubt
pub doubt_new : (front : List Record) (note : Record) (kept : Bool) → is_restart_record note ≡ false
    → InDoubt kept front note (front ++ cond kept (note ∷ []) [])
doubt_new front note kept h = record {
  restarts = [];
  all =
      ap (λ (x : List Record). front ++ x) (sym (append-nil (cond kept (note ∷ []) [])));
  only = refl;
  noted_ = h;
}

-- a restart that failed and left its record
pub doubt_restart : (kept : Bool) (before : List Record) (note : Record) (rs : List Record) (epoch : ℕ) → InDoubt kept before note rs
    → InDoubt kept before note (rs ++ records.Restart epoch ∷ [])
doubt_restart kept before note rs epoch h =
    record {
      restarts = h.restarts ++ records.Restart epoch ∷ [];
      all = ap (λ (x : List Record). x ++ records.Restart epoch ∷ []) h.all
          ∙ append_assoc before (cond kept (note ∷ []) [] ++ h.restarts) (records.Restart epoch ∷ [])
          ∙ ap (λ (x : List Record). before ++ x) (append_assoc (cond kept (note ∷ []) []) h.restarts (records.Restart epoch ∷ []));
      only = list_all-append is_restart_record h.restarts (records.Restart epoch ∷ []) ∙ rw h.only refl;
      noted_ = h.noted_;
    }

no_notes : (restarts : List Record) → list_all is_restart_record restarts ≡ true → starts_with_no_restart restarts ≡ false
no_notes [] h = refl
no_notes (r ∷ rs) h = rw ((and_parts (is_restart_record r) (list_all is_restart_record rs) h).0) refl

note_first : (kept : Bool) (note : Record) (restarts : List Record) → is_restart_record note ≡ false
    → list_all is_restart_record restarts ≡ true
    → starts_with_no_restart (cond kept (note ∷ []) [] ++ restarts) ≡ kept
note_first true note restarts h only = rw h refl
note_first false note restarts h only = no_notes restarts only

-- the code finds the record by the count of those before it
pub found_is_kept : (kept : Bool) (before : List Record) (note : Record) (rs : List Record) → InDoubt kept before note rs
    → is_record_behind (length before) rs ≡ kept
found_is_kept kept before note rs h =
    ap (λ (x : List Record). starts_with_no_restart (drop (length before) x)) h.all
    ∙ ap starts_with_no_restart (drop-append_seam before (cond kept (note ∷ []) [] ++ h.restarts))
    ∙ note_first kept note h.restarts h.noted_ h.only

count_answer : (at : Place) (c : Command) (n : ℕ) → n ≡ 0 → count_after is_unsure n (answer at c) ≡ 0
count_answer at Begin n h = omega (arith, h)
count_answer at c n h = omega (arith, h)

module _ (schema : SchemaValue) (s : ℕ) (base : Base) (o : List Entry) (front : List Record) where
  abbrev here : Place
  here = place schema s base o

  abbrev Then : Bool → Bool → Command → Reply → Type 0
  Then kept stood c r = (count_after is_unsure (count_since is_unsure o) r ≡ 0) ⊎ Doubted kept (front ++ adds here c r stood front)

  same_doubt : (kept : Bool) → (count_since is_unsure o ≡ 0) ⊎ Doubted kept front → (0 + count_since is_unsure o ≡ 0)
      ⊎ Doubted kept (front ++ [])
  same_doubt kept (inl none) = inl (omega (arith, none))
  same_doubt kept (inr doubted) = inr (subst (λ (x : List Record). Doubted kept x) (sym (append-nil front)) doubted)

  unsure_doubts : (kept stood : Bool) (c : Command) → writes here c ≡ true → stood ≡ kept → Then kept stood c Unsure
  unsure_doubts kept stood c w is =
      let left = one_left here c w in
      let made = doubt_new front left.0 kept (left_is_own here c left.1).0 in
      inr (
        front,
        left.0,
        subst (λ (b : Bool). InDoubt kept front left.0 (front ++ cond b (record_left here c) [])) (sym is)
            (subst (λ (x : List Record). InDoubt kept front left.0 (front ++ cond kept x [])) (sym left.1) made),
      )

  answer_doubts : (c : Command) (r : Reply) (kept stood : Bool) → is_restart c ≡ false → AnswerFits here c r → Tells kept stood front r
      → (count_since is_unsure o ≡ 0) ⊎ Doubted (doubt_kept_before kept r) front → Then kept stood c r
  answer_doubts c r kept stood n fits tells ih =
      elim (match_cases (first (refusals here c)) _ _ fits) [
        | inl refused ↦
            subst (λ (x : Reply). Then kept stood c x) (sym refused.2)
            (same_doubt kept (subst (λ (x : Reply). (count_since is_unsure o ≡ 0) ⊎ Doubted (doubt_kept_before kept x) front) refused.2 ih))
        | inr met ↦ elim met.1 [
          | inl answered ↦
              subst (λ (x : Reply). Then kept stood c x) (sym answered)
              (inl (count_answer here c (count_since is_unsure o) (up_none_unsure base o (up_there here c n met.0))))
          | inr unsure ↦
              subst (λ (x : Reply). Then kept stood c x) (sym unsure.0)
              (unsure_doubts kept stood c unsure.1 (subst (λ (x : Reply). Tells kept stood front x) unsure.0 tells))
        ]
      ]

  still_doubts : (kept stood : Bool) → (count_since is_unsure o ≡ 0) ⊎ Doubted kept front → Then kept stood Restart StillDown
  still_doubts kept true (inl none) = inl (omega (arith, none))
  still_doubts kept true (inr doubted) = inr (
    doubted.0,
    doubted.1,
    doubt_restart kept doubted.0 doubted.1 front (greatest front + 1) doubted.2,
  )
  still_doubts kept false h = same_doubt kept h

  restart_doubts : (r : Reply) (kept stood : Bool) → RestartFits here r → (count_since is_unsure o ≡ 0)
      ⊎ Doubted (doubt_kept_before kept r) front → Then kept stood Restart r
  restart_doubts StillDown kept stood fits ih = still_doubts kept stood ih
  restart_doubts (Refused x) kept stood fits ih = same_doubt kept ih
  restart_doubts (Restarted epoch found) kept stood fits ih = inl refl
  restart_doubts r kept stood fits ih = absurd fits

  step_doubts : (c : Command) (r : Reply) (kept stood : Bool) → Fits here c r → Tells kept stood front r → (count_since is_unsure o ≡ 0)
      ⊎ Doubted (doubt_kept_before kept r) front → Then kept stood c r
  step_doubts Restart r kept stood fits tells ih = restart_doubts r kept stood fits ih
  step_doubts c r kept stood fits tells ih = answer_doubts c r kept stood refl fits tells ih

-- where an answer is in doubt, its record stands behind some of the records, if it is kept, and only restarts behind that place
pub run_doubts : (schema : SchemaValue) (s : ℕ) (base : Base) (bs : List Record) (kept : Bool) (o : List Entry) (rs : List Record)
    → IsRun schema s base o → Keeps schema s base bs kept o rs
    → (count_since is_unsure o ≡ 0) ⊎ ((before : List Record) × (note : Record) × InDoubt kept before note rs)
run_doubts schema s base bs kept [] rs run keeps = inl refl
run_doubts schema s base bs kept (e ∷ o) rs run keeps =
    subst (λ (all : List Record). (count_since is_unsure (e ∷ o) ≡ 0) ⊎ Doubted kept all) (sym keeps.4)
    (step_doubts schema s base o keeps.0 e.command e.reply kept keeps.1 run.1 keeps.3
    (run_doubts schema s base bs (doubt_kept_before kept e.reply) o keeps.0 run.0 keeps.2))
