-- The verdict on entries that are judged as they are read.
use Rattle.std.proofs.Common.{◌≡◌, ◌≢◌, ℕ, ◌+◌, List, [], ◌∷◌, ◌++◌, reverse, length, refl, sym, ap, subst, ◌∙◌}
use Rattle.std.proofs.lemmas.List.{reverse-append}
use Rattle.field_bounds.specs.Schema.{SchemaValue}
use Rattle.field_bounds.specs.declared.entry.Entry.{Entry}
use Rattle.central_rules.specs.declared.verdict.Rule.{Rule}
use Rattle.central_rules.specs.declared.verdict.Verdict.{Verdict}
use Rattle.central_rules.specs.declared.verdict.Verdict.TheVariants as verdicts
use Rattle.central_rules.specs.Verdict.{broken_rule, verdict_more, verdict_back, verdict_of, read_for}
use Rattle.central_machine.specs.declared.front_judge.FrontJudge.{FrontJudge}
use Rattle.escrow_audit.specs.declared.taking.JudgedEntries.{JudgedEntries}
use Rattle.escrow_audit.specs.declared.taking.JudgedEntries.TheVariants.{Fresh, Legal, Illegal, NoMemory}
use Rattle.escrow_audit.specs.Judged.{AreJudged}
use Rattle.escrow_audit.specs.Audit.{verdict_text}

-- the first bad entry stays the first
bad_stays : (schema : SchemaValue) (entries : List Entry) (e : Entry) (at : ℕ) (rule : Rule) → verdict_of schema entries ≡ verdicts.Illegal at rule
    → verdict_of schema (entries ++ e ∷ []) ≡ verdicts.Illegal at rule
unfolding verdict_back
bad_stays schema entries e at rule bad =
    ap (verdict_back schema) (reverse-append entries (e ∷ []))
    ∙ ap (λ (v : Verdict). verdict_more v (broken_rule schema (reverse entries) e) (length (reverse entries) + 1)) bad

pub still_judged : (schema : SchemaValue) (entries : List Entry) (e : Entry) (judged : JudgedEntries)
    → judged ≢ Fresh → ((judge : FrontJudge) → judged ≡ Legal judge → ⊥)
    → AreJudged schema entries judged → AreJudged schema (entries ++ e ∷ []) judged
still_judged schema entries e Fresh begun apart are = absurd (begun refl)
still_judged schema entries e (Legal judge) begun apart are = absurd (apart judge refl)
still_judged schema entries e (Illegal at rule) begun apart are = bad_stays schema entries e at rule are
still_judged schema entries e NoMemory begun apart are = tt

-- no entries are legal
pub none_legal : (schema : SchemaValue) (entries : List Entry) (judged : JudgedEntries) → judged ≡ Fresh → AreJudged schema entries judged
    → verdicts.Legal ≡ verdict_of schema entries
unfolding verdict_back
none_legal schema entries judged same are =
    let none : entries ≡ [] = subst (λ (j : JudgedEntries). AreJudged schema entries j) same are in
    sym (ap (verdict_of schema) none)

-- the text tells no more than what was read for the verdict
pub text_read : (v : Verdict) (n : ℕ) → verdict_text v (read_for v n) ≡ verdict_text v n
text_read verdicts.Legal n = refl
text_read (verdicts.Illegal at rule) n = refl
