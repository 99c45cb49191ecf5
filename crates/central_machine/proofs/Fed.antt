-- The verdict with one more entry behind the others.
use Rattle.std.proofs.Common.{◌≡◌, ℕ, ◌+◌, List, [], ◌∷◌, ◌++◌, reverse, length, ap, sym, ◌∙◌, Option, Some, None}
use Rattle.std.proofs.lemmas.List.{reverse-append, length-reverse}
use Rattle.field_bounds.specs.declared.entry.Entry.{Entry}
use Rattle.field_bounds.specs.Schema.{SchemaValue}
use Rattle.central_rules.specs.declared.verdict.Rule.{Rule}
use Rattle.central_rules.specs.declared.verdict.Verdict.{Verdict}
use Rattle.central_rules.specs.declared.verdict.Verdict.TheVariants.{Legal, Illegal}
use Rattle.central_rules.specs.Verdict.{broken_rule, verdict_more, verdict_back, verdict_of}

pub back_more : (entries : List Entry) (e : Entry) → reverse (entries ++ e ∷ []) ≡ e ∷ reverse entries
back_more entries e = reverse-append entries (e ∷ [])

module _ (schema : SchemaValue) (entries : List Entry) (e : Entry) (legal : verdict_of schema entries ≡ Legal) where
  more : verdict_of schema (entries ++ e ∷ []) ≡ verdict_more Legal (broken_rule schema (reverse entries) e) (length entries + 1)
  unfolding verdict_back
  more =
      ap (verdict_back schema) (back_more entries e)
      ∙ ap (λ (v : Verdict). verdict_more v (broken_rule schema (reverse entries) e) (length (reverse entries) + 1)) legal
      ∙ ap (λ (n : ℕ). verdict_more Legal (broken_rule schema (reverse entries) e) (n + 1)) (length-reverse entries)

  module _ (found : Option Rule) (is : found ≡ broken_rule schema (reverse entries) e) where
    pub stays_legal : found ≡ None → verdict_of schema (entries ++ e ∷ []) ≡ Legal
    stays_legal none =
        more ∙ ap (λ (o : Option Rule). verdict_more Legal o (length entries + 1)) (sym is ∙ none)

    pub first_bad : (rule : Rule) → found ≡ Some rule → verdict_of schema (entries ++ e ∷ []) ≡ Illegal (length entries + 1) rule
    first_bad rule some =
        more ∙ ap (λ (o : Option Rule). verdict_more Legal o (length entries + 1)) (sym is ∙ some)
