-- What a run keeps behind lawful records is lawful.
use Rattle.std.proofs.Common.{◌≡◌, ℕ, ◌+◌, ◌≤◌, Bool, true, false, cond, List, [], ◌∷◌, ◌++◌, length, refl, sym, subst, inl, inr, arith, None}
use Rattle.std.proofs.lemmas.Bool.{lt-ltb}
use Rattle.std.proofs.lemmas.List.{append-nil}
use Rattle.std.specs.List.{AllByRecursion}
use Rattle.field_bounds.specs.declared.entry.Command.{Command}
use Rattle.field_bounds.specs.declared.entry.Command.TheVariants.{Restart}
use Rattle.field_bounds.specs.declared.entry.Reply.{Reply}
use Rattle.field_bounds.specs.declared.entry.Reply.TheVariants.{Restarted, StillDown, Refused}
use Rattle.field_bounds.specs.declared.entry.Entry.{Entry}
use Rattle.kept_records.specs.declared.record.Record.{Record}
use Rattle.kept_records.specs.declared.record.Record.TheVariants as records
use Rattle.field_bounds.specs.Schema.{SchemaValue}
use Rattle.field_bounds.specs.Effects.{Base, doubt_kept_before}
use Rattle.field_bounds.specs.Owed.{Place, place, first, refusals, Fits, RestartFits, AnswerFits, IsRun}
use Rattle.kept_records.specs.Stands.{greatest, may_follow, Lawful}
use Rattle.kept_records.proofs.Pushes.{lawful_push}
use Rattle.kept_state.specs.Keeps.{IsBase, record_left, adds, Tells, Keeps}
use Rattle.field_bounds.proofs.Refused.{match_cases, is_restart}
use Rattle.kept_state.proofs.Adding.{adds_answer, few_left}
use Rattle.kept_state.proofs.Staying.{run_lawful_more}

module _ (schema : SchemaValue) (s : ℕ) (base : Base) (bs : List Record) (is : IsBase schema s base bs) (o : List Entry)
    (front : List Record) (kept : Bool)
    (run : IsRun schema s base o) (keeps : Keeps schema s base bs kept o front) (lawful : Lawful schema s front) where
  abbrev there : Place
  there = place schema s base o

  same_lawful : Lawful schema s (front ++ [])
  same_lawful = subst (λ (all : List Record). Lawful schema s all) (sym (append-nil front)) lawful

  few_lawful : (more : List Record) → length more ≤ 1 → AllByRecursion (λ r. may_follow schema s front r ≡ true) more
      → Lawful schema s (front ++ more)
  few_lawful [] few each = same_lawful
  few_lawful (r ∷ []) few each = lawful_push schema s front r lawful each.0
  few_lawful (r ∷ q ∷ rest) few each = absurd (omega (arith, few))

  stood_lawful : (c : Command) (stood : Bool) → first (refusals there c) ≡ None → Lawful schema s (front ++ cond stood (record_left there c) [])
  stood_lawful c true h = few_lawful (record_left there c) (few_left there c) (run_lawful_more schema s base bs is kept o front run keeps c h)
  stood_lawful c false h = same_lawful

  answer_lawful : (c : Command) (r : Reply) (stood : Bool) → is_restart c ≡ false → AnswerFits there c r
      → Lawful schema s (front ++ adds there c r stood front)
  answer_lawful c r stood n fits =
      elim (match_cases (first (refusals there c)) _ _ fits) [
        | inl refused ↦ subst (λ (x : Reply). Lawful schema s (front ++ adds there c x stood front)) (sym refused.2) same_lawful
        | inr met ↦ elim met.1 [
          | inl answered ↦
              subst (λ (x : Reply). Lawful schema s (front ++ adds there c x stood front)) (sym answered)
              (subst (λ (more : List Record). Lawful schema s (front ++ more)) (sym (adds_answer there c stood front n))
              (stood_lawful c true met.0))
          | inr unsure ↦ subst (λ (x : Reply). Lawful schema s (front ++ adds there c x stood front)) (sym unsure.0)
              (stood_lawful c stood met.0)
        ]
      ]

  restart_may : (epoch : ℕ) → epoch ≡ greatest front + 1 → Lawful schema s (front ++ records.Restart epoch ∷ [])
  restart_may epoch h = lawful_push schema s front (records.Restart epoch) lawful (lt-ltb (greatest front) epoch (omega (arith, h)))

  restart_lawful : (r : Reply) (kept stood : Bool) → RestartFits there r → Tells kept stood front r
      → Lawful schema s (front ++ adds there Restart r stood front)
  restart_lawful StillDown kept true fits tells = restart_may (greatest front + 1) refl
  restart_lawful StillDown kept false fits tells = same_lawful
  restart_lawful (Refused x) kept stood fits tells = same_lawful
  restart_lawful (Restarted epoch found) kept stood fits tells = restart_may epoch tells
  restart_lawful r kept stood fits tells = absurd fits

  pub step_lawful : (c : Command) (r : Reply) (kept stood : Bool) → Fits there c r → Tells kept stood front r
      → Lawful schema s (front ++ adds there c r stood front)
  step_lawful Restart r kept stood fits tells = restart_lawful r kept stood fits tells
  step_lawful c r kept stood fits tells = answer_lawful c r stood refl fits

-- what a run keeps behind lawful records is lawful
pub run_stays_lawful : (schema : SchemaValue) (s : ℕ) (base : Base) (bs : List Record) → IsBase schema s base bs → Lawful schema s bs
    → (kept : Bool) (o : List Entry) (rs : List Record)
    → IsRun schema s base o → Keeps schema s base bs kept o rs → Lawful schema s rs
run_stays_lawful schema s base bs is lawful kept [] rs run keeps = subst (λ (all : List Record). Lawful schema s all) (sym keeps) lawful
run_stays_lawful schema s base bs is lawful kept (e ∷ o) rs run keeps =
    let before = run_stays_lawful schema s base bs is lawful (doubt_kept_before kept e.reply) o keeps.0 run.0 keeps.2 in
    subst (λ (all : List Record). Lawful schema s all) (sym keeps.4)
    (step_lawful schema s base bs is o keeps.0 (doubt_kept_before kept e.reply) run.0 keeps.2 before e.command e.reply kept keeps.1 run.1
    keeps.3)
